-- What a refusal leaves of a studio, by why it came.
use Rattle.editor_state.proofs.Common.{inr, refl, Refusal, Ghosts, Core, IsSoOf, Left, Entries}
use Rattle.editor_state.specs.{Adding.HasFailed, Adding.stopped_by}
use Rattle.pcm_base.specs.declared.refusal.Refusal.TheVariants as refusal

-- it says nothing of the disk
abbrev pub IsPlain : Refusal → Type 0
IsPlain refusal.DiskFault = ⊥
IsPlain (refusal.Damaged file at want have) = ⊥
IsPlain why = Unit {0}

-- nor of a counter or of the length of a record, as a call's own tests
abbrev pub IsOwn : Refusal → Type 0
IsOwn refusal.DiskFault = ⊥
IsOwn (refusal.Damaged file at want have) = ⊥
IsOwn (refusal.SpaceSpent have need) = ⊥
IsOwn (refusal.RecordLimit len) = ⊥
IsOwn why = Unit {0}

pub own_plain : (why : Refusal) → IsOwn why → IsPlain why
own_plain refusal.DiskFault own = absurd own
own_plain (refusal.Damaged file at want have) own = absurd own
own_plain why own = tt

pub plain_so : {D : Type 0} (disk : Ghosts D) (old new : Core D) (why : Refusal) → IsPlain why → IsSoOf disk old new why
plain_so disk old new refusal.DiskFault plain = absurd plain
plain_so disk old new (refusal.Damaged file at want have) plain = absurd plain
plain_so disk old new why plain = tt

module _ {D : Type 0} (disk : Ghosts D) (s : Core D) where
  -- the disk was asked no more than to read, or nothing
  pub left_read : (store : D) (cache : Entries) (why : Refusal)
      → IsSoOf disk s (record s { store = store; cache = cache }) why
      → Left disk s (record s { store = store; cache = cache }) why
  left_read store cache why so = record { same = refl; so = so }

  pub left_plain : (store : D) (why : Refusal) → IsPlain why → Left disk s (record s { store = store }) why
  left_plain store why plain = left_read store s.cache why (plain_so disk s (record s { store = store }) why plain)

  -- a change of it failed
  pub left_stopped : (store : D) → HasFailed disk s.store store
      → Left disk s (stopped_by disk s store) refusal.DiskFault
  left_stopped store failed = record { same = refl; so = inr failed }
