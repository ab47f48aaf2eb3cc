-- The lines of a script and their answers, by the entries of a run.
use Rattle.session_run.proofs.Common.{◌≡◌, inl, inr, ◌∙◌, refl, sym, ap, subst, ℕ, Bool, true, false, List, [], ◌∷◌}
use Rattle.session_run.proofs.Common.{◌++◌, append_assoc, Result, Ok, Err, MatchBool, Answer, Command, Bounce, Entry}
use Rattle.session_run.proofs.Common.{Each, ByOthers, Each-left, Each-right, is_silent, line_of, actor_of, entries_of}
use Rattle.session_run.proofs.Common.{entry_of, number_after, Deed, by_seat, deeds_of, entries_append, number_append}
use Rattle.session_run.proofs.Common.{Bounces, Enters, Place, line_deed, Next, AnswersLines, Turn, scripts_add}
use Rattle.session_run.proofs.Common.{same_rest, Answered, BounceEntries, BounceNumber, entries_by, last_number}
use Rattle.session_run.specs.Answered.{IsNext, IsUnasked}
use Rattle.session_run.proofs.BounceEntries.{bounce_entries, bounce_number}
use Rattle.session_run.proofs.EntryLemmas.{IsPlain, entries_as, last_as, none_by}

-- the commit number to which what a place has seen leads
abbrev number_at : Place → ℕ
number_at p = number_after p.first p.seen

-- Of the lines from one place to another: the deeds after the first lead to the last and then to those of others.
pub record Led (p q : Place) (later added : List Deed) : Type 0 where
  pub script : p.seat ≡ 0
  pub seen : q.seen ++ later ≡ p.seen ++ added
  pub by_others : ByOthers actor_of (0 ∷ []) later
  pub plain : Each IsPlain added

module _ (lines : List (List ℕ)) (q : Place) (later : List Deed)
    (go : (answers : List Answer) (p : Place) (added : List Deed) → AnswersLines p lines answers q → Led p q later added
    → Answered (number_at p) p.last lines answers (entries_of added)) where
  abbrev Later : ℕ → ℕ → List Answer → List Entry → Type 0
  Later m shown more rest = Answered m shown lines more rest

  -- a line that made no entry
  unasked : (p t : Place) (line : Result Command ℕ) (a : Answer) (answers : List Answer) (added : List Deed)
      (used : Bool) → t ≡ record p { used_up = used } → IsUnasked line a.reply
      → a.commit ≡ t.last → AnswersLines t lines answers q → Led p q later added
      → IsNext (number_at p) p.last line (a ∷ answers) (entries_of added) Later
  unasked p t line a answers added used same reply commit by_line led = inl (
    reply,
    commit ∙ ap (λ (z : Place). z.last) same,
    subst (λ (z : ℕ × ℕ). Answered z.0 z.1 lines answers (entries_of added))
        (λ i. (number_at (same i), (same i).last))
        (go answers t added by_line (record {
          script = ap (λ (z : Place). z.seat) same ∙ led.script;
          seen = led.seen ∙ ap (λ (z : Place). z.seen ++ added) (sym same);
          by_others = led.by_others;
          plain = led.plain;
        })),
  )

  -- the lines after one that made entries
  onward : (p t : Place) (m : ℕ) (a : Answer) (answers : List Answer) (added rest : List Deed) → t.seat ≡ p.seat
      → number_at t ≡ m → a.commit ≡ t.last → AnswersLines t lines answers q → Led p q later added
      → q.seen ++ later ≡ t.seen ++ rest → Each IsPlain rest → Answered m a.commit lines answers (entries_of rest)
  onward p t m a answers added rest seat number commit by_line led seen plain =
      subst (λ (z : ℕ × ℕ). Answered z.0 z.1 lines answers (entries_of rest)) (λ i. (number i, sym commit i))
      (go answers t rest by_line (record {
        script = seat ∙ led.script;
        seen = seen;
        by_others = led.by_others;
        plain = plain;
      }))

  -- a line that took a turn
  entered : (p t : Place) (command : Command) (a : Answer) (answers : List Answer) (added : List Deed)
      → Enters p command a.reply t → a.commit ≡ t.last → AnswersLines t lines answers q → Led p q later added
      → IsNext (number_at p) p.last (Ok command) (a ∷ answers) (entries_of added) Later
  entered p t command a answers added x commit by_line led =
      let d = line_deed p command x.what t.sounds in
      let more = scripts_add lines answers t q by_line in
      let rest = more.added ++ later in
      let seen_t : t.seen ≡ (p.seen ++ x.between) ++ d ∷ [] = ap (λ (z : Place). z.seen) x.after in
      let first_t : t.first ≡ p.first = ap (λ (z : Place). z.first) x.after in
      let last_t : t.last ≡ number_after p.first ((p.seen ++ x.between) ++ d ∷ []) =
      ap (λ (z : Place). z.last) x.after in
      let on : q.seen ++ later ≡ t.seen ++ rest =
      ap (λ (l : List Deed). l ++ later) more.seen ∙ append_assoc t.seen more.added later in
      let is : added ≡ x.between ++ d ∷ rest = same_rest p.seen added (x.between ++ d ∷ rest) (sym led.seen
      ∙ (on ∙ (ap (λ (l : List Deed). l ++ rest) seen_t
      ∙ (append_assoc (p.seen ++ x.between) (d ∷ []) rest ∙ append_assoc p.seen x.between (d ∷ rest))))) in
      let plain : Each IsPlain (x.between ++ d ∷ rest) = subst (λ (l : List Deed). Each IsPlain l) is led.plain in
      let front : Each IsPlain (x.between ++ d ∷ []) =
      Each-left IsPlain (x.between ++ d ∷ []) rest
      (subst (λ (l : List Deed). Each IsPlain l) (sym (append_assoc x.between (d ∷ []) rest)) plain) in
      let back : Each IsPlain rest =
      Each-right IsPlain (x.between ++ d ∷ []) rest
      (subst (λ (l : List Deed). Each IsPlain l) (sym (append_assoc x.between (d ∷ []) rest)) plain) in
      let at : a.commit ≡ number_after (number_at p) (x.between ++ d ∷ []) =
      commit ∙ (last_t ∙ (ap (number_after p.first) (append_assoc p.seen x.between (d ∷ []))
      ∙ number_append p.first p.seen (x.between ++ d ∷ []))) in
      let number_t : number_at t ≡ a.commit =
      (λ i. number_after (first_t i) (seen_t i)) ∙ sym (commit ∙ last_t) in
      inr (inl (
        entries_of rest,
        record {
          command = command;
          read = refl;
          others = entries_of x.between;
          by_others = none_by 0 x.between (subst (λ (n : ℕ). ByOthers actor_of (n ∷ []) x.between) led.script x.by_others);
          entry = entry_of d;
          cut = ap entries_of is ∙ entries_append x.between (d ∷ rest);
          actor = led.script;
          call = refl;
          reply = x.reply;
          commit = at ∙ (sym (last_as (number_at p) (x.between ++ d ∷ []) front)
              ∙ ap (last_number (number_at p)) (entries_append x.between (d ∷ [])));
        },
        onward p t a.commit a answers added rest (ap (λ (z : Place). z.seat) x.after) number_t commit by_line led on back,
      ))

  -- a bounce
  bounced : (p t : Place) (command : Command) (name : List ℕ) (a : Answer) (answers : List Answer) (added : List Deed)
      → command ≡ Bounce name → Bounces p name a.reply t → a.commit ≡ t.last → AnswersLines t lines answers q
      → Led p q later added → IsNext (number_at p) p.last (Ok command) (a ∷ answers) (entries_of added) Later
  bounced p t command name a answers added is x commit by_line led =
      let own : List Deed = deeds_of (by_seat p.seat) x.added in
      let more = scripts_add lines answers t q by_line in
      let rest = more.added ++ later in
      let seen_t : t.seen ≡ p.seen ++ x.added = ap (λ (z : Place). z.seen) x.after in
      let first_t : t.first ≡ p.first = ap (λ (z : Place). z.first) x.after in
      let on : q.seen ++ later ≡ t.seen ++ rest =
      ap (λ (l : List Deed). l ++ later) more.seen ∙ append_assoc t.seen more.added later in
      let parts : added ≡ x.added ++ rest = same_rest p.seen added (x.added ++ rest) (sym led.seen
      ∙ (on ∙ (ap (λ (l : List Deed). l ++ rest) seen_t ∙ append_assoc p.seen x.added rest))) in
      let plain : Each IsPlain (x.added ++ rest) = subst (λ (l : List Deed). Each IsPlain l) parts led.plain in
      let front : Each IsPlain x.added = Each-left IsPlain x.added rest plain in
      let back : Each IsPlain rest = Each-right IsPlain x.added rest plain in
      let own_is : entries_by 0 (entries_of x.added) ≡ entries_of own =
      entries_as 0 x.added ∙ ap (λ (n : ℕ). entries_of (deeds_of (by_seat n) x.added)) (sym led.script) in
      let number_t : number_at t ≡ last_number (number_at p) (entries_of x.added) =
      (λ i. number_after (first_t i) (seen_t i)) ∙ number_append p.first p.seen x.added
      ∙ sym (last_as (number_at p) x.added front) in
      inr (inr (
        entries_of x.added,
        entries_of rest,
        record {
          name = name;
          read = ap Ok is;
          cut = ap entries_of parts ∙ entries_append x.added rest;
          own = subst (λ (es : List Entry). BounceEntries a.reply es) (sym own_is)
              (bounce_entries t.used_up x.what own a.reply x.reply x.own);
          commit = subst
              (λ (es : List Entry). BounceNumber (number_at p) p.last a.commit (entries_of x.added) es) (sym own_is)
              (subst (λ (n : ℕ). BounceNumber (number_at p) p.last n (entries_of x.added) (entries_of own)) (sym commit)
              (bounce_number p x.added own t.last
              (λ f b d are. Each-left IsPlain (f ++ d ∷ []) b
              (subst (λ (l : List Deed). Each IsPlain l) (are ∙ sym (append_assoc f (d ∷ []) b)) front)) x.last));
        },
        onward p t _ a answers added rest (ap (λ (z : Place). z.seat) x.after) number_t commit by_line led on back,
      ))

  next : (p : Place) (line : List ℕ) (answers : List Answer) (added : List Deed)
      → Next p line answers (λ mid more. AnswersLines mid lines more q) → Led p q later added
      → IsNext (number_at p) p.last (line_of line) answers (entries_of added) Later
  next p line [] added h led = absurd h
  next p line (a ∷ answers) added (t, (turn, commit), by_line) led = by (line_of line) turn
    where
      by : (r : Result Command ℕ) → Turn p r a.reply t
          → IsNext (number_at p) p.last r (a ∷ answers) (entries_of added) Later
      by (Err column) (reply, same) = unasked p t (Err column) a answers added p.used_up same reply commit by_line led
      by (Ok command) (inl x) = entered p t command a answers added x.1 commit by_line led
      by (Ok command) (inr (inl (reply, same))) =
          unasked p t (Ok command) a answers added true same (inl reply) commit by_line led
      by (Ok command) (inr (inr (inr x))) = bounced p t command x.0 a answers added x.1 x.2 commit by_line led
      by (Ok command) (inr (inr (inl (reply, same)))) =
          unasked p t (Ok command) a answers added p.used_up same (inr reply) commit by_line led

-- the lines have their answers by the entries of the deeds that were added
pub answered : (lines : List (List ℕ)) (answers : List Answer) (p q : Place) (later added : List Deed)
    → AnswersLines p lines answers q → Led p q later added
    → Answered (number_at p) p.last lines answers (entries_of added)
answered [] answers p q later added h led = (
  h.0,
  ap (λ (l : List Deed). entries_by 0 (entries_of l)) (sym (same_rest p.seen later added
      (ap (λ (z : Place). z.seen ++ later) (sym h.1) ∙ led.seen))) ∙ none_by 0 later led.by_others,
)
answered (line ∷ lines) answers p q later added h led =
    by (λ more t rest. answered lines more t q later rest) (is_silent line) h
  where
    by : ((more : List Answer) (t : Place) (rest : List Deed) → AnswersLines t lines more q → Led t q later rest
        → Answered (number_at t) t.last lines more (entries_of rest))
        → (b : Bool) → MatchBool b (AnswersLines p lines answers q) (Next p line answers (λ mid more. AnswersLines mid lines more q))
        → MatchBool b (Answered (number_at p) p.last lines answers (entries_of added))
        (IsNext (number_at p) p.last (line_of line) answers (entries_of added)
        (λ m shown more rest. Answered m shown lines more rest))
    by go true by_line = go answers p added by_line led
    by go false turn = next lines q later go p line answers added turn led
