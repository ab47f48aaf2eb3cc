-- Calls that remove no file, and the ids that are counted after them.
use Rattle.editor_state.proofs.Common.{rules, ◌≡◌, ◌↔◌, ◌∙◌, inl, ⊎_elim, refl, sym, subst, ℕ, suc, ◌+◌, IsSome, List}
use Rattle.editor_state.proofs.Common.{[], true, Option, Some, None, Result, Ok, Err, Bool, false, if◌then◌else◌, arith}
use Rattle.editor_state.proofs.Common.{true≢false, IfOk, Reclaim, Reply, Call, Line, Refusal, commits_of, name_in, Kept}
use Rattle.editor_state.proofs.Common.{Ghosts, Counts, is_broken_off, may_have_begun, reads_sound, Frees, Core}
use Rattle.editor_state.proofs.Common.{CountsIds, Records, NamesGiven}
use Rattle.std.specs.Prelude.{Contains}
use Rattle.pcm_base.specs.declared.command.Command.TheVariants.{Compact, Import}
use Rattle.editor_state.specs.Exchanges.{is_cut_off}
use Rattle.editor_state.specs.Removals.{Forgets, PacksJournal}
use Rattle.editor_state.specs.{Makes.AddsFree}

-- ---- the files

-- a call that is no reclaim
abbrev pub RemovesNone : Call → Type 0
RemovesNone (Line (Reclaim limit)) = ⊥
RemovesNone call = Unit {0}

pub commit_removes_none : {more : ℕ} (c : Call) → commits_of c ≡ suc more → RemovesNone c
commit_removes_none (Line (Reclaim limit)) many = absurd (omega (arith, many))
commit_removes_none c many = tt

-- a call that is no compact
abbrev pub PacksNone : Call → Type 0
PacksNone (Line Compact) = ⊥
PacksNone call = Unit {0}

pub commit_leaves_journal : {more : ℕ} (c : Call) → commits_of c ≡ suc more → PacksNone c
commit_leaves_journal (Line Compact) many = absurd (omega (arith, many))
commit_leaves_journal c many = tt

pub frees_none : {D : Type 0} (disk : Ghosts D) (old : Core D) (c : Call) (told : Result Reply Refusal) (new : Core D)
    → RemovesNone c → PacksNone c → Frees disk old c told [] new
frees_none disk old (Line (Reclaim limit)) told new none plain = absurd none
frees_none disk old (Line Compact) told new none plain = absurd plain
frees_none disk old c told new none plain = refl

-- a compact that was refused says nothing of the journal
pub packs_refused : {D : Type 0} (disk : Ghosts D) (old : Core D) (why : Refusal) (new : Core D)
    → PacksJournal disk old (Err why) new
packs_refused disk old why new = search rules

pub frees_refused : {D : Type 0} (disk : Ghosts D) (old : Core D) (c : Call) (why : Refusal) (new : Core D)
    → RemovesNone c → Frees disk old c (Err why) [] new
frees_refused disk old (Line (Reclaim limit)) why new none = absurd none
frees_refused disk old (Line Compact) why new none = (refl, packs_refused disk old why new)
frees_refused disk old c why new none = refl

pub commit_frees : {D : Type 0} {more : ℕ} (disk : Ghosts D) (old : Core D) (c : Call) (told : Result Reply Refusal)
    (new : Core D) → commits_of c ≡ suc more → Frees disk old c told [] new
commit_frees disk old c told new many = search (rules, frees_none, commit_removes_none, commit_leaves_journal)

-- ---- the disk, where it broke the call off

pub off_untouched : {D : Type 0} (disk : Ghosts D) (old new : D) (why : Refusal) → is_broken_off why ≡ true
    → is_broken_off why ≡ false → Kept disk old new
off_untouched disk old new why off plain = absurd (true≢false (sym off ∙ plain))

-- the same of any call
pub begun_untouched : {D : Type 0} (disk : Ghosts D) (old new : D) (c : Call) (why : Refusal)
    → may_have_begun c why ≡ true → may_have_begun c why ≡ false → Kept disk old new
begun_untouched disk old new c why off plain = absurd (true≢false (sym off ∙ plain))

if_so : (b c : Bool) → c ≡ true → (if b then true else c) ≡ true
if_so true c e = refl
if_so false c e = e

if_both : (b c d : Bool) → c ≡ true → d ≡ true → (if b then c else d) ≡ true
if_both true c d one two = one
if_both false c d one two = two

pub broken_begins : (c : Call) (why : Refusal) → is_broken_off why ≡ true → may_have_begun c why ≡ true
broken_begins c why off = search (rules, if_both, if_so)

pub cut_begins : (c : Call) (why : Refusal) → reads_sound c ≡ true → is_cut_off why ≡ true
    → may_have_begun c why ≡ true
cut_begins c why reads cut = search rules

-- a call that reads a sound names it
pub names_sound : (c : Call) → reads_sound c ≡ true → IsSome (name_in c)
names_sound (Line (Import name)) reads = refl
names_sound c reads = absurd (true≢false (sym reads))

-- ---- the record

-- none was added
pub no_record : {D : Type 0} (old : Core D) (told : Result Reply Refusal) (new : Core D) → Records old told new 0
no_record old (Ok r) new = inl refl
no_record old (Err why) new = λ off. omega arith

-- ---- the ids

-- where no id was given there is none to be named
pub none_given : {D : Type 0} (told : Result Reply Refusal) (s new : Core D) → new.next_block ≡ s.next_block
    → IfOk told (λ r. NamesGiven s new)
none_given (Ok r) s new next = λ id least less. absurd (omega (arith, least, less, next))
none_given (Err why) s new next = tt

none_in : (id : ℕ) → Contains [] id → ⊥
none_in id h = omega (arith, h.1)

module _ {D : Type 0} (old new : Core D) where
  -- no file was removed, and n blocks were made
  pub ids_made : (counts : Counts) (n : ℕ) → AddsFree old.next_block n old.counts counts
      → ((id : ℕ) → IsSome (new.counts id) ↔ IsSome (counts id)) → new.next_block ≡ old.next_block + n
      → CountsIds old [] new
  ids_made counts n adds same next id = search (rules, none_in)

  -- no file was removed, and no block was made
  pub ids_still : ((id : ℕ) → IsSome (new.counts id) ↔ IsSome (old.counts id)) → new.next_block ≡ old.next_block
      → CountsIds old [] new
  ids_still same next id = search (rules, none_in)

  -- these files were removed, and no block was made
  pub ids_freed : (counts : Counts) (ids : List ℕ) → Forgets old.counts counts ids → new.counts ≡ counts
      → new.next_block ≡ old.next_block → CountsIds old ids new
  ids_freed counts ids was is next id = (
    λ some. let here = subst (λ (k : Counts). IsSome (k id)) is some in
        let spared = λ (one : Contains ids id). some_not (counts id) (was.gone id one) here in
        (inl (subst IsSome (was.others id spared) here), spared),
    λ has. subst (λ (k : Counts). IsSome (k id)) (sym is)
        (subst IsSome (sym (was.others id has.1))
        (⊎_elim (λ some. some) (λ at. absurd (omega (arith, at.0, at.1, next))) has.0)),
  )
    where
      some_not : (o : Option ℕ) → o ≡ None → IsSome o → ⊥
      some_not None none some = absurd (cc some)
      some_not (Some n) none some = absurd (cc none)

-- nothing of the counts and of the next block changed
pub ids_same : {D : Type 0} (s new : Core D) → new.counts ≡ s.counts → new.next_block ≡ s.next_block
    → CountsIds s [] new
ids_same s new counts next = search (rules, ids_still)
