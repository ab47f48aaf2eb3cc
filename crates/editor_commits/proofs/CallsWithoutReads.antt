-- What reads no block tells of no damaged file.
use Rattle.editor_commits.proofs.Common.{rules, ◌≡◌, ◌⊎◌, sym, subst, ℕ, ◌+◌, nat_lt, List, length, Some, Err}
use Rattle.editor_commits.proofs.Common.{Refusal, Ghosts, Clip, IsUndamaged, track_of, Track, Adds, Fields}
use Rattle.editor_commits.proofs.Common.{Core, refusal_by, PlainEdit}
use Rattle.edit_ops.specs.Runs.{copy_tests}
use Rattle.editor_state.proofs.Refusals.DamageTests.{TellsNone, either_tells, lacks_tells, one_tells, range_tells}
use Rattle.editor_state.proofs.Refusals.DamageTests.{tests_tell}
use Rattle.pcm_base.specs.declared.refusal.Refusal.TheVariants as refusal
use Rattle.editor_commits.specs.declared.plain_edit.PlainEdit.TheVariants as edit

-- want of memory
memory_tells : (why : Refusal) → why ≡ refusal.NoMemory → IsUndamaged why
memory_tells why is = subst IsUndamaged (sym is) tt

-- ---- copies
copy_tests_tell : (run : List (List Clip)) (n from to : ℕ) → TellsNone (copy_tests run n from to)
copy_tests_tell run n from to = search (rules, either_tells, one_tells, range_tells)

pub copies_tell : (run : List (List Clip)) (n from to : ℕ) (why : Refusal)
    → (copy_tests run n from to ≡ Some why) ⊎ (why ≡ refusal.NoMemory) → IsUndamaged why
copies_tell run n from to why not = search (rules, tests_tell, copy_tests_tell, memory_tells)

-- ---- edits that make no blocks
pub refusal_tells : (e : PlainEdit) (ts : List Track) → TellsNone (refusal_by e ts)
refusal_tells edit.Track ts = one_tells (nat_lt 64 (length ts + 1)) refusal.TrackLimit tt
refusal_tells (edit.Drop id) ts = lacks_tells id (track_of id ts)
refusal_tells (edit.Level id gain) ts = lacks_tells id (track_of id ts)
refusal_tells (edit.Side id side) ts = lacks_tells id (track_of id ts)
refusal_tells (edit.Mute id mute) ts = lacks_tells id (track_of id ts)

-- ---- a record that was not added
fields_tell : {D : Type 0} (R : Type 0) (disk : Ghosts D) (old new : Core D) (whole count len : ℕ)
    (why : Refusal) → Fields {R = R} disk old whole count len (Err why) new → IsUndamaged why
fields_tell R disk old new whole count len (refusal.Damaged file at want have) fields = absurd fields
fields_tell R disk old new whole count len why fields = tt

pub adding_tells : {D R : Type 0} (disk : Ghosts D) (old new : Core D) (bodies : List (List ℕ)) (count whole : ℕ)
    (why : Refusal) → Adds {R = R} disk old bodies count whole (Err why) new → IsUndamaged why
adding_tells {R = R} disk old new bodies count whole why adds = search (rules, fields_tell)
