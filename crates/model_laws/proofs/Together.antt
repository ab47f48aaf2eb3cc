-- Samples of a recording that come at once are their pieces, one after another.
use Rattle.std.proofs.Common.{◌≡◌, ◌==◌, ◌∙◌, refl, sym, ap, subst, ℕ, ℤ, zero, suc, ◌+◌, ◌-◌, ◌*◌, ◌/◌, ◌^◌, ◌≤◌, ◌<◌}
use Rattle.std.proofs.Common.{min, Bool, true, false, List, [], ◌∷◌, ◌++◌, length, take, drop, Option, None, arith}
use Rattle.std.proofs.Common.{add-mul, append_assoc, length-append, mul-le-mul_left, All}
use Rattle.std.proofs.lemmas.List.{append-nil, length-drop, length-take-le, map-append, take-append-drop, take_all}
use Rattle.std.proofs.{lemmas.Bool.cond_both, lemmas.Bool.eqb-true, lemmas.Bool.le-ltb, lemmas.Nat.div-add-mod'}
use Rattle.std.proofs.{lemmas.Nat.div_below, lemmas.Nat.mod_below, lemmas.List.Elements.All-head}
use Rattle.std.specs.Prelude.{if◌then◌else◌}
use Rattle.pcm_base.specs.Cells.{Project, cells_at, cells_of_first, edited_at, tracks_from, trimmed}
use Rattle.pcm_base.specs.Counters.{Needs, commits_of, counter_tests, generations_of, no_room, pins_of, places_of}
use Rattle.pcm_base.specs.Counters.{layouts_of, record_bytes, record_test, tracks_of}
use Rattle.pcm_base.specs.Refusals.{◌otherwise◌, call_tests, is_empty, length_limit, no_track, refused_if}
use Rattle.pcm_base.specs.Run.{CarriesOut, Run, answered, followed, outside, refusal_of, stop_test}
use Rattle.pcm_base.specs.{declared.sound.Cell.Cell, declared.sound.Cell.TheVariants.Sample, declared.command.Call.Call}
use Rattle.pcm_base.specs.{declared.command.Call.TheVariants.Piece, declared.refusal.Refusal.Refusal}
use Rattle.pcm_base.specs.{declared.answer.Reply.Reply, declared.entry.SoundMove.SoundMove, Edits.as_cells}
use Rattle.pcm_base.specs.{History.History, History.recorded, declared.limits.TheConstants.LONGEST_BODY}
use Rattle.pcm_base.specs.{Outside.Outside, Recordings.parts_of, Recordings.pieces_in, Sizes.blocks_of_samples}
use Rattle.pcm_base.specs.{Sizes.project_body_most, State.State, State.current, Step.with_piece, Studio.Studio}
use Rattle.model_laws.specs.{Bounds.IsBoundedState, Bounds.IsTrack, Laws.BatchesArePieces, Laws.pieces_done}
use Rattle.model_laws.proofs.Again.{cells_edited, edited_same, edited_twice, recorded_again, recorded_current}
use Rattle.model_laws.proofs.Trimming.{length-trimmed, trimmed-sample, trimmed-trimmed}
use Rattle.model_laws.proofs.{Again.recorded_depth, Again.there_edited, Calls.Passed, Calls.passed}
use Rattle.model_laws.proofs.{EditLengths.length-as_cells, Growth.piece_grows, OwnTests.both_passed}
use Rattle.model_laws.proofs.{PassedTests.piece_passed, States.current_project, Tracks.tracks_from_tracks}
use Rattle.pcm_base.specs.declared.refusal.Refusal.TheVariants as refusal

-- ---- tests that let a call through

pub both_pass : (a b : Option Refusal) → a ≡ None → b ≡ None → (a otherwise b) ≡ None
both_pass a b first second = ap (λ (o : Option Refusal). o otherwise b) first ∙ second

pub room_passes : (have need : ℕ) → have + need ≤ 2 ^ 62 → no_room have need ≡ None
room_passes have need few =
    ap (λ (b : Bool). refused_if b (refusal.SpaceSpent have need)) (le-ltb (2 ^ 62) (have + need) few)

pub limit_passes : (len : ℕ) → len ≤ 2 ^ 32 → length_limit (len ∷ []) ≡ None
limit_passes len few =
    ap (λ (b : Bool). (refused_if b (refusal.LengthLimit len)) otherwise None) (le-ltb (2 ^ 32) len few)

pub passes : (out : Outside) (t : Studio) (c : Call) (blocks len : ℕ) → Passed out t c blocks len →
    refusal_of out t c blocks len ≡ None
passes out t c blocks len p =
    let a = no_room t.next_block blocks in
    let b = no_room t.state.next_track (tracks_of out c) in
    let d = no_room t.state.commit (commits_of c) in
    let e = no_room t.state.next_pin (pins_of c) in
    let f = no_room t.journal_end (places_of c len) in
    let g = no_room t.generation (generations_of c) in
    let h = no_room t.next_layout (layouts_of out t.state c) in
    let own = call_tests out t.state c in
    let counters = counter_tests out t c blocks len in
    let rooms : counters ≡ None =
    both_pass a (b otherwise d otherwise e otherwise f otherwise g otherwise h)
    (room_passes t.next_block blocks p.room.ids)
    (both_pass b (d otherwise e otherwise f otherwise g otherwise h)
    (room_passes t.state.next_track (tracks_of out c) p.room.tracks)
    (both_pass d (e otherwise f otherwise g otherwise h) (room_passes t.state.commit (commits_of c) p.room.commits)
    (both_pass e (f otherwise g otherwise h) (room_passes t.state.next_pin (pins_of c) p.room.pins)
    (both_pass f (g otherwise h) (room_passes t.journal_end (places_of c len) p.room.places)
    (both_pass g h (room_passes t.generation (generations_of c) p.room.generations)
    (room_passes t.next_layout (layouts_of out t.state c) p.room.layouts)))))) in
    both_pass (stop_test t.stopped c) (own otherwise counters otherwise record_test len) p.going
    (both_pass own (counters otherwise record_test len) p.own
    (both_pass counters (record_test len) rooms
    (ap (λ (r : Bool). refused_if r (refusal.RecordLimit len)) (le-ltb LONGEST_BODY len p.short))))

-- ---- numbers

div_sum : (a b m : ℕ) → 0 < m → (a + b) / m ≤ a / m + b / m + 1
div_sum a b m some =
    let q = a / m + b / m + 2 in
    let below : (a + b) / m < q =
    div_below (a + b) m q some (omega (
      arith,
      add-mul (a / m + b / m) 2 m,
      add-mul (a / m) (b / m) m,
      div-add-mod' a m,
      div-add-mod' b m,
      mod_below a m some,
      mod_below b m some,
    )) in
    omega (arith, below)

-- where there are commits
where_some : (n bytes : ℕ) → 0 < n → (if n == 0 then 0 else bytes) ≡ bytes
where_some n bytes some = cond_both (n == 0) _ _ (λ (k : ℕ). k ≡ bytes)
    (λ e. absurd (omega (arith, some, eqb-true n 0 e))) (λ _. refl)

some_bytes : (c : Call) (len : ℕ) → 0 < commits_of c → record_bytes c len ≡ 5 + len
some_bytes c len some = where_some (commits_of c) (5 + len) some

some_places : (c : Call) (len : ℕ) → 0 < commits_of c → places_of c len ≡ 6 + len
some_places c len some = where_some (commits_of c) (6 + len) some

-- ---- one point

-- samples after cells of which no gap is the last
ended_more : (cells : List Cell) (xs : List ℤ) → trimmed cells ≡ cells →
    trimmed (cells ++ as_cells xs) ≡ cells ++ as_cells xs
ended_more cells [] ended =
    ap trimmed (append-nil cells) ∙ ended ∙ sym (append-nil cells)
ended_more cells (x ∷ xs) ended = trimmed-sample cells x (as_cells xs) (ending x xs)
  where
    ending : (z : ℤ) (zs : List ℤ) → trimmed (Sample z ∷ as_cells zs) ≡ Sample z ∷ as_cells zs
    ending z [] = refl
    ending z (w ∷ zs) = ap (λ (l : List Cell). Sample z ∷ l) (ending w zs)

-- a piece after a piece is a piece of both
both_pieces : (s : State) (track tag : ℕ) (xs ys : List ℤ) → 1 ≤ s.history.depth → 1 ≤ tag →
    trimmed (cells_at track (current s)) ≡ cells_at track (current s) →
    (with_piece (with_piece s track tag xs) track tag ys).history ≡ (with_piece s track tag (xs ++ ys)).history
both_pieces s track tag xs ys some numbered ended =
    let p = current s in
    let f = λ (cells : List Cell). trimmed (cells ++ as_cells xs) in
    let g = λ (cells : List Cell). trimmed (cells ++ as_cells ys) in
    let h = λ (cells : List Cell). trimmed (cells ++ as_cells (xs ++ ys)) in
    let cells = cells_at track p in
    let whole : g (f cells) ≡ h cells =
    ap g (ended_more cells xs ended)
    ∙ ap trimmed (append_assoc cells (as_cells xs) (as_cells ys)
    ∙ ap (λ (l : List Cell). cells ++ l) (sym (map-append Sample xs ys))) in
    let project : edited_at track g (current (with_piece s track tag xs)) ≡ edited_at track h p =
    ap (edited_at track g) (recorded_current s.history (edited_at track f p) tag some)
    ∙ edited_twice track f g p ∙ edited_same track (λ cells. g (f cells)) h p whole in
    ap (λ (q : Project). recorded (recorded s.history (edited_at track f p) tag) q tag) project
    ∙ recorded_again s.history (edited_at track f p) (edited_at track h p) tag some numbered

no_cells : (ts : Project) → is_empty ts ≡ true → cells_of_first ts ≡ []
no_cells [] e = refl
no_cells (t ∷ ts) e = let no : ⊥ = cc in absurd no

-- its track has no gap as the last cell again
ended_next : (s : State) (track tag : ℕ) (xs : List ℤ) → 1 ≤ s.history.depth →
    trimmed (cells_at track (current (with_piece s track tag xs)))
    ≡ cells_at track (current (with_piece s track tag xs))
ended_next s track tag xs some =
    subst (λ (q : Project). trimmed (cells_at track q) ≡ cells_at track q)
    (sym (recorded_current s.history (edited_at track f (current s)) tag some))
    (by (is_empty (tracks_from track (current s))) refl)
  where
    f : List Cell → List Cell
    f cells = trimmed (cells ++ as_cells xs)

    by : (b : Bool) → is_empty (tracks_from track (current s)) ≡ b
        → trimmed (cells_at track (edited_at track f (current s))) ≡ cells_at track (edited_at track f (current s))
    by true e = subst (λ (l : List Cell). trimmed l ≡ l)
        (sym (no_cells (tracks_from track (edited_at track f (current s))) (there_edited track f (current s) ∙ e))) refl
    by false e = subst (λ (l : List Cell). trimmed l ≡ l) (sym (cells_edited track f (current s) e))
        (trimmed-trimmed (cells_at track (current s) ++ as_cells xs))

first_ended : (ts : Project) → All IsTrack ts → trimmed (cells_of_first ts) ≡ cells_of_first ts
first_ended [] all = refl
first_ended (t ∷ ts) all = (All-head IsTrack t ts all).cells.ended

ended_here : (s : State) (track : ℕ) → IsBoundedState s →
    trimmed (cells_at track (current s)) ≡ cells_at track (current s)
ended_here s track b =
    first_ended (tracks_from track (current s)) (tracks_from_tracks track (current s) (current_project s b).tracks)

-- what a piece leaves of cells for those after it
cells_left : (s : State) (track tag : ℕ) (xs : List ℤ) → 1 ≤ s.history.depth →
    length (cells_at track (current (with_piece s track tag xs))) ≤ length (cells_at track (current s)) + length xs
cells_left s track tag xs some =
    let now : current (with_piece s track tag xs) ≡ edited_at track f (current s) =
    recorded_current s.history (edited_at track f (current s)) tag some in
    let fewer : length (cells_at track (edited_at track f (current s)))
    ≤ length (cells_at track (current s)) + length xs = by (is_empty (tracks_from track (current s))) refl in
    omega (arith, ap (λ (p : Project). length (cells_at track p)) now, fewer)
  where
    f : List Cell → List Cell
    f cells = trimmed (cells ++ as_cells xs)

    by : (b : Bool) → is_empty (tracks_from track (current s)) ≡ b
        → length (cells_at track (edited_at track f (current s))) ≤ length (cells_at track (current s)) + length xs
    by true e = omega (
      arith,
      ap length (no_cells (tracks_from track (edited_at track f (current s))) (there_edited track f (current s) ∙ e)),
    )
    by false e =
        let cells = cells_at track (current s) in
        omega (
          arith,
          ap length (cells_edited track f (current s) e),
          length-trimmed (cells ++ as_cells xs),
          length-append cells (as_cells xs),
          length-as_cells xs,
        )

-- ---- the first of several pieces, and the others

-- how many bytes the first takes of this many of both, where `b` are the most for it and `k` records more follow it
abbrev first_len : (len k b : ℕ) → ℕ
first_len len k b = min (len - 5 * (1 + k)) b

-- what is left for the others is within their bounds
rest_within : (len k low high last : ℕ) → low ≤ high → 5 * (1 + k) ≤ len → len ≤ (1 + k) * (5 + low) + last →
    (5 * k ≤ len - 5 - first_len len k high) × (len - 5 - first_len len k high ≤ k * (5 + high) + last)
rest_within len k low high last order least most =
    let grows : k * (5 + low) ≤ k * (5 + high) = mul-le-mul_left k (omega (arith, order)) in
    let fives : k * 5 ≤ k * (5 + high) = mul-le-mul_left k (omega arith) in
    (omega (arith, least), omega (arith, grows, fives, least, most, order, add-mul 1 k (5 + low)))

module _ (t : Studio) (track tag : ℕ) (sound : SoundMove) (x y : List ℤ) (blocks len layout : ℕ)
    (depth : 1 ≤ t.state.history.depth) (numbered : 1 ≤ tag) (size : 0 < t.block_size)
    (ended : trimmed (cells_at track (current t.state)) ≡ cells_at track (current t.state))
    (whole : length x ≡ 256) (some : 1 ≤ length y)
    (needs : Needs (outside t sound) t (Piece track tag (x ++ y)) blocks len)
    (all : Passed (outside t sound) t (Piece track tag (x ++ y)) blocks len) where
  abbrev out : Outside
  out = outside t sound

  abbrev m : ℕ
  m = t.block_size

  abbrev first : Call
  first = Piece track tag x

  abbrev rest : Call
  rest = Piece track tag y

  abbrev both : Call
  both = Piece track tag (x ++ y)

  abbrev next : State
  next = with_piece t.state track tag x

  -- how many pieces come after the second
  abbrev k : ℕ
  k = (length y - 1) / 256

  abbrev b : ℕ
  b = min blocks (blocks_of_samples m (length x))

  abbrev l : ℕ
  l = first_len len k (project_body_most m (current next))

  abbrev mid : Studio
  mid = followed out t first b l t.next_layout

  lengths : length (x ++ y) ≡ length x + length y
  lengths = length-append x y

  more_is : (length (x ++ y) - 1) / 256 ≡ 1 + k
  more_is = omega (arith, lengths, whole, some)

  none_more : (length x - 1) / 256 ≡ 0
  none_more = omega (arith, whole)

  long : (5 * (1 + k) ≤ len) × (len ≤ (1 + k) * (5 + project_body_most m (current t.state))
      + project_body_most m (current (with_piece t.state track tag (x ++ y))))
  long = subst (λ (n : ℕ). (5 * n ≤ len) × (len ≤ n * (5 + project_body_most m (current t.state))
      + project_body_most m (current (with_piece t.state track tag (x ++ y))))) more_is (needs.1, needs.2)

  same_then : current (with_piece next track tag y) ≡ current (with_piece t.state track tag (x ++ y))
  same_then = ap (λ (h : History Project). current (record t.state { history = h }))
      (both_pieces t.state track tag x y depth numbered ended)

  grows : project_body_most m (current t.state) ≤ project_body_most m (current next)
  grows = piece_grows m t.state track tag x size depth

  rest_long : (5 * k ≤ len - 5 - l) × (len - 5 - l ≤ k * (5 + project_body_most m (current next))
      + project_body_most m (current (with_piece next track tag y)))
  rest_long = subst (λ (p : Project). (5 * k ≤ len - 5 - l)
      × (len - 5 - l ≤ k * (5 + project_body_most m (current next)) + project_body_most m p)) (sym same_then)
      (rest_within len k (project_body_most m (current t.state)) (project_body_most m (current next))
      (project_body_most m (current (with_piece t.state track tag (x ++ y)))) grows long.0 long.1)

  first_needs : Needs out t first b l
  first_needs = subst (λ (n : ℕ). (b ≤ blocks_of_samples m (length x)) × (5 * n ≤ l)
      × (l ≤ n * (5 + project_body_most m (current t.state)) + project_body_most m (current next)))
      (sym none_more) (omega arith, omega arith, omega arith)

  rest_needs : Needs out mid rest (blocks - b) (len - 5 - l)
  rest_needs =
      let sum = div_sum (length x) (length y) m size in
      (omega (arith, needs.0, sum, ap (λ (n : ℕ). n / m) lengths), rest_long.0, rest_long.1)

  fits : length (cells_at track (current t.state)) + length (x ++ y) ≤ 2 ^ 32
  fits = piece_passed t.state track (length (x ++ y)) all.own

  found : no_track t.state track ≡ None
  found =
      (both_passed (no_track t.state track)
      (length_limit ((length (cells_at track (current t.state)) + length (x ++ y)) ∷ [])) all.own).0

  found_next : no_track next track ≡ None
  found_next =
      let f = λ (cells : List Cell). trimmed (cells ++ as_cells x) in
      let p = current t.state in
      ap (λ (q : Project). refused_if (is_empty (tracks_from track q)) (refusal.NoTrack track))
      (recorded_current t.state.history (edited_at track f p) tag depth)
      ∙ ap (λ (b : Bool). refused_if b (refusal.NoTrack track)) (there_edited track f p) ∙ found

  places : t.journal_end + (6 + len) ≤ 2 ^ 62
  places = omega (arith, all.room.places, some_places both len (omega arith))

  first_passed : refusal_of out t first b l ≡ None
  first_passed = passes out t first b l (record {
    going = all.going;
    own = both_pass (no_track t.state track)
        (length_limit ((length (cells_at track (current t.state)) + length x) ∷ [])) found
        (limit_passes (length (cells_at track (current t.state)) + length x) (omega (arith, fits, lengths)));
    room = record {
      ids = omega (arith, all.room.ids);
      tracks = all.room.tracks;
      commits = omega (arith, all.room.commits, none_more);
      pins = all.room.pins;
      places = omega (arith, places, some_places first l (omega arith));
      generations = all.room.generations;
      layouts = all.room.layouts;
    };
    short = omega (arith, all.short);
  })

  rest_passed : refusal_of out mid rest (blocks - b) (len - 5 - l) ≡ None
  rest_passed =
      let cells = length (cells_at track (current next)) in
      let left = cells_left t.state track tag x depth in
      passes out mid rest (blocks - b) (len - 5 - l) (record {
        going = all.going;
        own = both_pass (no_track next track) (length_limit ((cells + length y) ∷ [])) found_next
            (limit_passes (cells + length y) (omega (arith, fits, left, lengths)));
        room = record {
          ids = omega (arith, all.room.ids);
          tracks = all.room.tracks;
          commits = omega (arith, all.room.commits, none_more, more_is);
          pins = all.room.pins;
          places = omega (
            arith,
            places,
            long.0,
            some_places rest (len - 5 - l) (omega arith),
            some_bytes first l (omega arith),
          );
          generations = all.room.generations;
          layouts = all.room.layouts;
        };
        short = omega (arith, all.short);
      })

  both_are : followed out t both blocks len layout ≡ followed out mid rest (blocks - b) (len - 5 - l) layout
  both_are =
      let ids : t.next_block + blocks ≡ t.next_block + b + (blocks - b) = omega arith in
      let commit : t.state.commit + pieces_in (length (x ++ y)) ≡ next.commit + pieces_in (length y) =
      omega (arith, none_more, more_is) in
      let end : t.journal_end + record_bytes both len
      ≡ t.journal_end + record_bytes first l + record_bytes rest (len - 5 - l) =
      omega (
        arith,
        long.0,
        some_bytes both len (omega arith),
        some_bytes first l (omega arith),
        some_bytes rest (len - 5 - l) (omega arith),
      ) in
      λ i. record t {
        state = record t.state {
          history = sym (both_pieces t.state track tag x y depth numbered ended) i;
          commit = commit i;
        };
        next_block = ids i;
        journal_end = end i;
        next_layout = layout;
      }

-- ---- all of them

pieces_run : (k : ℕ) (t u : Studio) (actor track tag : ℕ) (xs : List ℤ) (sound : SoundMove) (r : Reply) →
    (length xs - 1) / 256 ≡ k → 1 ≤ t.state.history.depth → 1 ≤ tag → 0 < t.block_size →
    trimmed (cells_at track (current t.state)) ≡ cells_at track (current t.state) →
    CarriesOut t (Piece track tag xs) sound r u →
    Run t (pieces_done actor track tag sound (parts_of 256 (suc k) xs)) u
pieces_run zero t u actor track tag xs sound r count depth numbered size ended done =
    subst (λ (ys : List ℤ). Run t (pieces_done actor track tag sound (ys ∷ [])) u)
    (sym (take_all 256 xs (omega (arith, count)))) (
      u,
      record {
        blocks = done.blocks;
        len = done.len;
        layout = done.layout;
        needs = done.needs;
        passed = done.passed;
        draws = done.draws;
        answers = refl;
        is = done.is ∙ ap (λ (a : Reply). answered a
            (followed (outside t sound) t (Piece track tag xs) done.blocks done.len done.layout)) done.answers;
        heard = done.heard;
      },
      refl,
    )
pieces_run (suc k) t u actor track tag xs sound r count depth numbered size ended done =
    let x = take 256 xs in
    let y = drop 256 xs in
    let whole : length x ≡ 256 = length-take-le 256 xs (omega (arith, count)) in
    let left : length y ≡ length xs - 256 = length-drop 256 xs in
    let some : 1 ≤ length y = omega (arith, left, count) in
    let out = outside t sound in
    let joined : x ++ y ≡ xs = take-append-drop 256 xs in
    let needs = subst (λ (zs : List ℤ). Needs out t (Piece track tag zs) done.blocks done.len) (sym joined)
    done.needs in
    let all = passed out t (Piece track tag (x ++ y)) done.blocks done.len
    (subst (λ (zs : List ℤ). refusal_of out t (Piece track tag zs) done.blocks done.len ≡ None) (sym joined)
    done.passed) in
    let b = min done.blocks (blocks_of_samples t.block_size (length x)) in
    let next = with_piece t.state track tag x in
    let l = first_len done.len ((length y - 1) / 256) (project_body_most t.block_size (current next)) in
    let middle = followed out t (Piece track tag x) b l t.next_layout in (
      middle,
      record {
        blocks = b;
        len = l;
        layout = t.next_layout;
        needs = first_needs t track tag sound x y done.blocks done.len done.layout depth numbered size ended whole some
            needs all;
        passed = first_passed t track tag sound x y done.blocks done.len done.layout depth numbered size ended whole
            some needs all;
        draws = (omega arith, omega arith);
        answers = refl;
        is = refl;
        heard = done.heard;
      },
      pieces_run k middle u actor track tag y sound r (omega (arith, left, count))
          (subst (λ (n : ℕ). 1 ≤ n) (sym (recorded_depth t.state.history
          (edited_at track (λ (cells : List Cell). trimmed (cells ++ as_cells x)) (current t.state)) tag)) depth)
          numbered size (ended_next t.state track tag x depth)
          (record {
            blocks = done.blocks - b;
            len = done.len - 5 - l;
            layout = done.layout;
            needs = rest_needs t track tag sound x y done.blocks done.len done.layout depth numbered size ended whole
                some needs all;
            passed = rest_passed t track tag sound x y done.blocks done.len done.layout depth numbered size ended whole
                some needs all;
            draws = done.draws;
            answers = done.answers;
            is = done.is ∙ ap (answered r)
                (ap (λ (zs : List ℤ). followed out t (Piece track tag zs) done.blocks done.len done.layout) (sym joined)
                ∙ both_are t track tag sound x y done.blocks done.len done.layout depth numbered size ended whole some
                needs all);
            heard = done.heard;
          }),
    )

pub batch_pieces : BatchesArePieces
batch_pieces t u actor track tag samples sound r b numbered done =
    pieces_run ((length samples - 1) / 256) t u actor track tag samples sound r refl b.state.history.depth.0 numbered
    (omega (arith, b.block_size.least)) (ended_here t.state track b.state) done
