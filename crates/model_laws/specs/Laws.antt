-- What holds of each state that the model reaches.
use Rattle.std.specs.Prelude.{◌≡◌, ℕ, ◌+◌, ◌≤◌, ℤ, List, [], ◌∷◌, Result, Ok, Err}
use Rattle.pcm_base.specs.{declared.command.Call.Call, declared.command.Call.TheVariants.Piece}
use Rattle.pcm_base.specs.{declared.answer.Reply.Reply, declared.answer.Reply.TheVariants.Done}
use Rattle.pcm_base.specs.{declared.refusal.Refusal.Refusal, declared.entry.SoundMove.SoundMove}
use Rattle.pcm_base.specs.{declared.entry.Entry.Entry, Counters.commits_of, Form.IsCallInForm, Recordings.pieces_of}
use Rattle.pcm_base.specs.{Run.CarriesOut, Run.Run, Run.Step, Run.result_of, Studio.Studio, Studio.fresh}
use Rattle.model_laws.specs.Bounds.{IsBlockSize, IsBoundedStudio, IsDepth}

-- a new studio, its numbers in their bounds
abbrev pub FreshIsBounded : Type 0
FreshIsBounded =
    (rate block_size depth : ℕ) → 1 ≤ rate → IsBlockSize block_size → IsDepth depth →
    IsBoundedStudio (fresh rate block_size depth)

-- a call that is carried out
abbrev pub CarryingOutIsBounded : Type 0
CarryingOutIsBounded =
    (t u : Studio) (c : Call) (sound : SoundMove) (r : Reply) → IsBoundedStudio t → IsCallInForm t.state.commit c →
    CarriesOut t c sound r u → IsBoundedStudio u

-- any step
abbrev pub StepsAreBounded : Type 0
StepsAreBounded =
    (t u : Studio) (c : Call) (sound : SoundMove) (r : Reply) → IsBoundedStudio t → IsCallInForm t.state.commit c →
    Step t c sound r u → IsBoundedStudio u

-- how many commits a call made, by its answer: one that was refused made none
abbrev pub commits_made : Call → Result Reply Refusal → ℕ
commits_made c (Ok r) = commits_of c
commits_made c (Err why) = 0

-- the commit number after each step
abbrev pub CommitsAreCounted : Type 0
CommitsAreCounted =
    (t u : Studio) (c : Call) (sound : SoundMove) (r : Reply) → Step t c sound r u →
    u.state.commit ≡ t.state.commit + commits_made c (result_of r)

-- pieces of a recording that were carried out, as entries
abbrev pub pieces_done : (actor track tag : ℕ) → SoundMove → List (List ℤ) → List Entry
pieces_done actor track tag sound [] = []
pieces_done actor track tag sound (samples ∷ more) = record {
  actor = actor;
  call = Piece track tag samples;
  reply = Done;
  sound = sound;
} ∷ pieces_done actor track tag sound more

-- Samples of a recording that come at once are their pieces, one after another: from the same studio to the same one,
-- its next block, the end of its journal and its next layout too.
abbrev pub BatchesArePieces : Type 0
BatchesArePieces =
    (t u : Studio) (actor track tag : ℕ) (samples : List ℤ) (sound : SoundMove) (r : Reply) → IsBoundedStudio t →
    1 ≤ tag → CarriesOut t (Piece track tag samples) sound r u →
    Run t (pieces_done actor track tag sound (pieces_of samples)) u

-- entries after this many commits, each call in form where it is asked
abbrev pub AreInForm : ℕ → List Entry → Type 0
AreInForm commit [] = Unit {0}
AreInForm commit (e ∷ es) =
    IsCallInForm commit e.call × AreInForm (commit + commits_made e.call (result_of e.reply)) es

-- any run
abbrev pub RunsAreBounded : Type 0
RunsAreBounded =
    (t u : Studio) (entries : List Entry) → IsBoundedStudio t → AreInForm t.state.commit entries → Run t entries u →
    IsBoundedStudio u

-- and so any state that a run reaches from a new studio
abbrev pub ReachedIsBounded : Type 0
ReachedIsBounded =
    (rate block_size depth : ℕ) (u : Studio) (entries : List Entry) → 1 ≤ rate → IsBlockSize block_size →
    IsDepth depth → AreInForm 0 entries → Run (fresh rate block_size depth) entries u →
    IsBoundedStudio u
