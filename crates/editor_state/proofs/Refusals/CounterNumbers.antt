-- The numbers of a refusal: what a counter had no room for.
use Rattle.editor_state.proofs.Common.{rules, ◌≡◌, ◌∙◌, ◌⊎◌, inl, inr, ⊎_elim, refl, sym, ap, subst, ℕ, suc, ◌+◌, ◌<◌}
use Rattle.editor_state.proofs.Common.{Bool, true, false, Option, Some, None, arith, none-some, same_Some, commits_of}
use Rattle.editor_state.proofs.Common.{layouts_of, no_room, record_test, Call, SoundMove, Refusal, LONGEST_BODY}
use Rattle.editor_state.proofs.Common.{Outside, ◌otherwise◌, call_tests, refused_if, outside, stop_of, Ghosts, Needed}
use Rattle.editor_state.proofs.Common.{Outgrows, Core, studio_of}
use Rattle.std.proofs.{lemmas.Bool.ltb-true}
use Rattle.std.specs.Prelude.{nat_lt}
use Rattle.editor_state.specs.Spent.{IsNumberSpent, IsSpent, WouldMake}
use Rattle.editor_state.specs.{Bodies.IsLength}
use Rattle.editor_state.proofs.Refusals.CallTests.{own, own_by, stop}
use Rattle.editor_state.proofs.{Refusals.RefusalEffects.IsOwn, Refusals.CommitTests.IsCommitCall}
use Rattle.pcm_base.specs.declared.refusal.Refusal.TheVariants as refusal
use Rattle.pcm_base.specs.Studio as model

either_of : (a b : Option Refusal) (why : Refusal) → a otherwise b ≡ Some why → (a ≡ Some why) ⊎ (b ≡ Some why)
either_of None b why h = inr h
either_of (Some r) b why h = inl h

spent_is : (b : Bool) (r why : Refusal) → refused_if b r ≡ Some why → why ≡ r
spent_is true r why h = sym (same_Some r why h)
spent_is false r why h = absurd (none-some why h)

long_is : (b : Bool) (r why : Refusal) → refused_if b r ≡ Some why → b ≡ true
long_is true r why h = refl
long_is false r why h = absurd (none-some why h)

room_is : (have need : ℕ) (why : Refusal) → no_room have need ≡ Some why → why ≡ refusal.SpaceSpent have need
room_is have need why h = spent_is _ (refusal.SpaceSpent have need) why h

module _ {D : Type 0} (disk : Ghosts D) (s : Core D) (c : Call) (sound : SoundMove) where
  abbrev t : model.Studio
  t = studio_of disk s

  abbrev out : Outside
  out = outside t sound

  -- ---- no counter refused it

  pub own_needed : (why : Refusal) → IsOwn why → Needed disk s c sound why
  own_needed (refusal.SpaceSpent have need) own = absurd own
  own_needed (refusal.RecordLimit n) own = absurd own
  own_needed why own = tt

  pub tests_needed : (why : Refusal) → call_tests out t.state c ≡ Some why → Needed disk s c sound why
  tests_needed why h = own_needed why (own_by (call_tests out t.state c) why (own out t.state c) h)

  stop_needed : (why : Refusal) → stop_of s.stopped ≡ Some why → Needed disk s c sound why
  stop_needed why h = own_needed why (own_by (stop_of s.stopped) why (stop s.stopped) h)

  pub early_needed : (why : Refusal) → (stop_of s.stopped) otherwise (call_tests out t.state c) ≡ Some why
      → Needed disk s c sound why
  early_needed why h = search (rules, stop_needed, tests_needed, either_of)

  -- ---- one of the numbers is spent

  number_needed : (have need : ℕ) (why : Refusal) → IsSpent have need why
      → (IsSpent have need (refusal.SpaceSpent have need)
      → IsNumberSpent disk s c sound (refusal.SpaceSpent have need))
      → Needed disk s c sound why
  number_needed have need why h by = search (rules, room_is, inl)

  module _ (tracks : ℕ) {more : ℕ} (call : IsCommitCall c sound tracks more) where
    numbers_needed : (why : Refusal)
        → (no_room s.next_track tracks) otherwise (no_room s.commit_number (suc more)) ≡ Some why → Needed disk s c sound why
    numbers_needed why h = search (rules, number_needed, either_of)

    -- a test before the record is made
    pub tested_needed : (own : Option Refusal) → own ≡ call_tests out t.state c → (why : Refusal)
        → (stop_of s.stopped) otherwise own otherwise (no_room s.next_track tracks)
        otherwise (no_room s.commit_number (suc more)) ≡ Some why → Needed disk s c sound why
    tested_needed own is why h = search (rules, stop_needed, tests_needed, numbers_needed, either_of, own)

    -- ---- by what it would have made

    pub spent_needed : (it : WouldMake disk s c sound) (why : Refusal) → (no_room s.next_block it.blocks) otherwise
        (no_room s.next_track tracks) otherwise (no_room s.commit_number (suc more)) ≡ Some why
        → Needed disk s c sound why
    spent_needed it why h = ⊎_elim
        (λ block.
        let is = room_is s.next_block it.blocks why block in
        subst (Needed disk s c sound) (sym is) (inr (it, inl (block ∙ ap Some is))))
        (numbers_needed why)
        (either_of (no_room s.next_block it.blocks)
        ((no_room s.next_track tracks) otherwise (no_room s.commit_number (suc more))) why h)

  -- the journal's places for its records, the numbers of its layouts, or their length
  pub outgrowing_needed : (it : WouldMake disk s c sound) (len : ℕ) → IsLength s it.writes len → (layouts : ℕ)
      → layouts ≡ layouts_of out t.state c → (why : Refusal)
      → Outgrows s.journal_end s.next_layout layouts len why → Needed disk s c sound why
  outgrowing_needed it len one layouts same why h =
      let place = no_room s.journal_end (6 + len) in
      let draws = no_room s.next_layout layouts in
      ⊎_elim
      (λ early. ⊎_elim
      (λ end.
      let is = room_is s.journal_end (6 + len) why end in
      subst (Needed disk s c sound) (sym is) (inr (it, inr (len, one, end ∙ ap Some is))))
      (λ spent. number_needed s.next_layout layouts why spent (λ is.
      inr (inr (inr (inr (subst (λ (k : ℕ). IsSpent s.next_layout k (refusal.SpaceSpent s.next_layout layouts))
      same is))))))
      (either_of place draws why early))
      (λ late.
      let is = spent_is (nat_lt LONGEST_BODY len) (refusal.RecordLimit len) why late in
      let over : LONGEST_BODY < len = ltb-true LONGEST_BODY len
      (long_is (nat_lt LONGEST_BODY len) (refusal.RecordLimit len) why late) in
      subst (Needed disk s c sound) (sym is) (it, one, over))
      (either_of (place otherwise draws) (record_test len) why h)

  -- ---- of another call that is no commit either

  pub other_needed : (d : Call) → commits_of c ≡ 0
      → ((why : Refusal) → IsNumberSpent disk s c sound why → IsNumberSpent disk s d sound why)
      → (why : Refusal) → Needed disk s c sound why → Needed disk s d sound why
  other_needed d none numbers (refusal.SpaceSpent have need) h = ⊎_elim
      (λ number. inl (numbers (refusal.SpaceSpent have need) number))
      (λ made. absurd (omega (arith, none, made.0.commits)))
      h
  other_needed d none numbers (refusal.RecordLimit n) h = absurd (omega (arith, none, h.0.commits))
  other_needed d none numbers why h = tt
