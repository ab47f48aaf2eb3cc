-- Records that are added together make the log with all their bodies more.
use Rattle.project_journal.proofs.Common.{◌≡◌, ◌≢◌, ℕ, ◌+◌, ◌≤◌, Some, List, [], ◌∷◌, ◌++◌, length, map, drop, refl}
use Rattle.project_journal.proofs.Common.{sym, ◌∙◌, ap, suc, ◌-◌, take, arith, inl, inr, append_assoc, length-append}
use Rattle.project_journal.proofs.Common.{subst, append-nil, take_all, flat_map, AllByRecursion, IsTrue, little_bytes}
use Rattle.project_journal.proofs.Common.{Files, SameElsewhere, Changed, upto_refl, Room, Ghosts, IsShut, IsOpen}
use Rattle.project_journal.proofs.Common.{HasGate, IsShutOrOpen, IsDurable, EachNow, EachSince, AreWaiting, Entry}
use Rattle.project_journal.proofs.Common.{⊎_elim, HasOneOf, IsAt, IsEntry, IsLog, Log, body_of, entry, entry_of, opened}
use Rattle.project_journal.proofs.Common.{with_body, IsNewest, Form}
use Rattle.std.proofs.lemmas.List.{length-drop}
use Rattle.project_journal.specs.Journal.{IsShort, rows_length, with_bodies}
use Rattle.project_journal.proofs.{Kept.newest_elsewhere, Logs.each_more, Logs.is_entry, Logs.longer, Logs.regrouped}

-- one more of those that wait
pub opened_more : (bodies : List (List ℕ)) (body : List ℕ)
    → opened (bodies ++ body ∷ []) ≡ opened bodies ++ opened (body ∷ [])
opened_more [] body = refl
opened_more (b ∷ bs) body =
    ap (λ (l : List ℕ). entry (entry_of 1 b) ++ l) (opened_more bs body)
    ∙ sym (append_assoc (entry (entry_of 1 b)) (opened bs) (opened (body ∷ [])))

pub waiting_more : (rows more : List ℕ) (bodies : List (List ℕ)) (body : List ℕ) → AreWaiting rows bodies
    → IsShort body → more ≡ rows ++ opened (body ∷ []) → AreWaiting more (bodies ++ body ∷ [])
waiting_more rows more bodies body are short is = record {
  spelled = is ∙ ap (λ (l : List ℕ). l ++ opened (body ∷ [])) are.spelled ∙ sym (opened_more bodies body);
  short = each_more IsShort bodies body are.short short;
}

-- how many bytes they are
pub opened_length : (body : List ℕ) (more : List (List ℕ)) → length (opened (body ∷ more)) ≡ 5 + rows_length (body ∷ more)
opened_length b [] = omega (
  arith,
  length-append (entry (entry_of 1 b)) [],
  length-append (little_bytes 4 (length b)) b,
)
opened_length b (c ∷ more) = omega (
  arith,
  length-append (entry (entry_of 1 b)) (opened (c ∷ more)),
  length-append (little_bytes 4 (length b)) b,
  opened_length c more,
)

-- that is, after the first gate and length
pub rows_size : (rows : List ℕ) (bodies : List (List ℕ)) → AreWaiting rows bodies → 5 ≤ length rows
    → length rows - 5 ≡ rows_length bodies
rows_size rows [] are some = absurd (omega (arith, some, ap length are.spelled))
rows_size rows (b ∷ bs) are some = omega (arith, ap length are.spelled, opened_length b bs)

flat_opened : (bodies : List (List ℕ)) → flat_map entry (map (entry_of 1) bodies) ≡ opened bodies
flat_opened [] = refl
flat_opened (b ∷ bs) = ap (λ (l : List ℕ). entry (entry_of 1 b) ++ l) (flat_opened bs)

bodies_back : (bodies : List (List ℕ)) → map body_of (map (entry_of 1) bodies) ≡ bodies
bodies_back [] = refl
bodies_back (b ∷ bs) = ap (λ (l : List (List ℕ)). b ∷ l) (bodies_back bs)

are_entries : (bodies : List (List ℕ)) → AllByRecursion IsShort bodies
    → AllByRecursion IsEntry (map (entry_of 1) bodies)
are_entries [] all = tt
are_entries (b ∷ bs) all = (is_entry 1 b (λ none. absurd (omega arith)) all.0, are_entries bs all.1)

-- some entries more
longer_all : (form : Form) (front : List ℕ) (log : Log) (es : List Entry) → IsLog form front log
    → AllByRecursion IsEntry es → IsLog form (front ++ flat_map entry es) (with_bodies log (map body_of es))
longer_all form front log [] is all =
    subst (λ (l : List ℕ). IsLog form l (with_bodies log [])) (sym (append-nil front))
    (subst (λ (bs : List (List ℕ)). IsLog form front (record log { bodies = bs })) (sym (append-nil log.bodies)) is)
longer_all form front log (e ∷ es) is all =
    subst (λ (l : List ℕ). IsLog form l (with_bodies log (map body_of (e ∷ es))))
    (append_assoc front (entry e) (flat_map entry es))
    (subst (λ (bs : List (List ℕ)). IsLog form ((front ++ entry e) ++ flat_map entry es) (record log { bodies = bs }))
    (append_assoc log.bodies (e.body ∷ []) (map body_of es))
    (longer_all form (front ++ entry e) (with_body log e.body) es (longer form front log e is all.0) all.1))

-- all but the first byte, as the code takes it
pub tail_is : (all rows : List ℕ) → all ≡ rows → take (length all - 1) (drop 1 all) ≡ drop 1 rows
tail_is all rows is =
    take_all (length all - 1) (drop 1 all) (omega (arith, length-drop 1 all)) ∙ ap (λ (l : List ℕ). drop 1 l) is

pub row_length : (all rows : List ℕ) → all ≡ rows ++ 0 ∷ [] → 5 ≤ length rows
    → length (take (length all - 1) (drop 1 all)) ≡ 5 + (length rows - 5)
row_length all rows is some = omega (
  arith,
  ap length (tail_is all (rows ++ 0 ∷ []) is),
  length-drop 1 (rows ++ 0 ∷ []),
  length-append rows (0 ∷ []),
)

-- What the file has where some of the rows' gates are open: the front with all records, which spells the log with them.
record Added (form : Form) (log : Log) (front row : List ℕ) (bodies : List (List ℕ)) (size gate : ℕ) : Type 0 where
  all : List ℕ
  long : length all ≡ length front + size
  spelled : IsLog form all (with_bodies log bodies)
  shut : (c : Files) → HasGate form.file front gate row c → IsShut form.file all c

added : (form : Form) (log : Log) (front rows row : List ℕ) (bodies : List (List ℕ)) (gate : ℕ) → 5 ≤ length rows
    → AreWaiting rows bodies → IsLog form front log → row ≡ drop 1 (rows ++ 0 ∷ []) → gate ≢ 0
    → Added form log front row bodies (length rows) gate
added form log front rows row [] gate some are is row-is not_shut =
    absurd (omega (arith, some, ap length are.spelled))
added form log front rows row (first ∷ more) gate some are is row-is not_shut =
    let size = little_bytes 4 (length first) in
    let es = entry_of gate first ∷ map (entry_of 1) more in
    record {
      all = front ++ flat_map entry es;
      long = length-append front (flat_map entry es)
          ∙ ap (λ (l : List ℕ). length front + suc (length (size ++ first ++ l))) (flat_opened more)
          ∙ ap (λ (l : List ℕ). length front + length l) (sym are.spelled);
      spelled = subst (λ (bs : List (List ℕ)). IsLog form (front ++ flat_map entry es) (with_bodies log (first ∷ bs)))
          (bodies_back more) (longer_all form front log es is
          (is_entry gate first not_shut are.short.0, are_entries more are.short.1));
      shut = λ c has. (
        has.0,
        has.1 ∙ ap (λ (l : List ℕ). Some l)
            (ap (λ (l : List ℕ). front ++ gate ∷ l ++ has.0)
            (row-is ∙ ap (λ (l : List ℕ). drop 1 (l ++ 0 ∷ [])) are.spelled)
            ∙ regrouped front (gate ∷ (size ++ first) ++ opened more) has.0
            ∙ ap (λ (l : List ℕ). front ++ (gate ∷ (size ++ first) ++ l) ++ 0 ∷ has.0) (sym (flat_opened more))),
      );
    }

-- no image since the start has a newer journal
newest_since : {D : Type 0} (disk : Ghosts D) (old new : D) (file : ℕ) (much : Room)
    → Changed disk (SameElsewhere file) much old new → (generation : ℕ) → EachNow disk old (IsNewest file generation)
    → EachSince disk old new (IsNewest file generation)
newest_since disk old new file much changed generation each c since =
    let d = changed.images.from c since in newest_elsewhere file generation d.0 c d.2 (each d.0 d.1)

-- ---- an append, by the row that is written after a gate

module _ {D : Type 0} (disk : Ghosts D) (old new : D) (file at : ℕ) (rows row : List ℕ) (much : Room)
    (some : 5 ≤ length rows) (is_row : row ≡ drop 1 (rows ++ 0 ∷ []))
    (changed : Changed disk (SameElsewhere file) much old new)
  where
    pub any_moment : ((front : List ℕ) → length front ≡ at → IsTrue (disk.tells old)
        → IsShut file front (disk.reads old) → EachNow disk old (IsShut file front)
        → EachSince disk old new (IsShutOrOpen file front row)) → (form : Form) (log : Log) (bodies : List (List ℕ))
        → form.file ≡ file → IsTrue (disk.tells old) → IsAt form disk old at log → AreWaiting rows bodies
        → EachSince disk old new (HasOneOf form log (with_bodies log bodies))
    any_moment any form log bodies is tells here are c since =
        let front = here.front in
        let newest : IsNewest form.file log.base.generation c =
        rw is (newest_since disk old new file much changed log.base.generation (rw is at here.newest_images) c since) in
        ⊎_elim
        (λ shut. inl (record { front = front; spelled = here.spelled; shut = shut; newest = newest }))
        (λ gated.
        let more = added form log front rows row bodies gated.0 some are here.spelled is_row gated.1 in
        inr (record { front = more.all; spelled = more.spelled; shut = more.shut c gated.2; newest = newest }))
        (subst (λ (f : ℕ). IsShutOrOpen f front row c) (sym is)
        (any front here.place tells (rw is at here.read) (rw is at here.images) c since))

    pub done : (next : ℕ) → next ≡ at + length rows → ((front : List ℕ) → length front ≡ at
        → IsTrue (disk.tells old) → IsShut file front (disk.reads old) → IsOpen file front row (disk.reads new))
        → IsDurable disk new file → (form : Form) (log : Log) (bodies : List (List ℕ)) → form.file ≡ file
        → IsTrue (disk.tells old) → IsAt form disk old at log → AreWaiting rows bodies
        → IsAt form disk new next (with_bodies log bodies)
    done next is_next opens same form log bodies is tells here are =
        let front = here.front in
        let g = log.base.generation in
        let gated = subst (λ (f : ℕ). IsOpen f front row (disk.reads new)) (sym is)
        (opens front here.place tells (rw is at here.read)) in
        let more = added form log front rows row bodies gated.0 some are here.spelled is_row gated.1 in
        let shut = more.shut (disk.reads new) gated.2 in
        record {
          front = more.all;
          place = omega (arith, here.place, is_next, more.long);
          spelled = more.spelled;
          read = shut;
          images = λ c now. (shut.0, subst (IsDurable disk new) (sym is) same c now ∙ shut.1);
          newest = rw is
              (newest_elsewhere file g (disk.reads old) (disk.reads new) (changed.reads tells) (rw is at here.newest));
          newest_images = λ c now.
              rw is (newest_since disk old new file much changed g (rw is at here.newest_images) c
              (changed.images.fewer _ _ c changed.images.later (upto_refl _) now));
        }
