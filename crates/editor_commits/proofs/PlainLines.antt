-- The lines that make no blocks, as calls, and what each sets.
use Rattle.editor_commits.proofs.Common.{◌≡◌, Bool, refl, ℕ, ◌≤◌, Line, layouts_of, Outside, State, Sources, Track}
use Rattle.editor_commits.proofs.Common.{meant_track, layouts_by, line_of, tracks_by, set_by, PlainEdit, silent}
use Rattle.editor_commits.proofs.Common.{IsCommitCall}
use Rattle.pcm_base.specs.{declared.sound.Side.Side}
use Rattle.pcm_base.specs.Cells as cells
use Rattle.editor_commits.specs.declared.plain_edit.PlainEdit.TheVariants as edit

-- ---- the lines
pub call_by : (e : PlainEdit) → IsCommitCall (Line (line_of e)) silent (tracks_by e) 0
call_by edit.Track = assumption
call_by e = assumption

-- the numbers of layouts that each needs
pub draws_by : (e : PlainEdit) (out : Outside) (st : State) → layouts_of out st (Line (line_of e)) ≡ layouts_by e
draws_by edit.Track out st = refl
draws_by e out st = refl

-- what sets something of a track, and what that means
pub record Sets (g : Track → Track) (f : cells.Track → cells.Track) : Type 0 where
  pub id : (t : Track) → (g t).id ≡ t.id
  pub number : (t : Track) → (g t).number ≡ t.number
  pub layout : (t : Track) → (g t).layout ≡ t.layout
  pub gain : (t : Track) → t.gain ≤ 1048576 → (g t).gain ≤ 1048576
  pub changes : (src : Sources) (t : Track) → meant_track src (g t) ≡ f (meant_track src t)

pub sets_gain : (id gain : ℕ) → gain ≤ 1048576
    → Sets (set_by (edit.Level id gain)) (λ (t : cells.Track). record t { gain = gain })
sets_gain id gain good = assumption

pub sets_side : (id : ℕ) (side : Side)
    → Sets (set_by (edit.Side id side)) (λ (t : cells.Track). record t { side = side })
sets_side id side = assumption

pub sets_mute : (id : ℕ) (mute : Bool)
    → Sets (set_by (edit.Mute id mute)) (λ (t : cells.Track). record t { mute = mute })
sets_mute id mute = assumption
