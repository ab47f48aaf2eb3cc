-- What it means that no line of a script is refused.
use Rattle.std.specs.Prelude.{◌≡◌, ℕ, ◌≤◌, List, [], ◌∷◌, map, All, IsOk, None, Ok}
use Rattle.pcm_base.specs.{declared.answer.Reply.Reply, declared.command.Call.TheVariants.Line}
use Rattle.pcm_base.specs.{declared.command.Command.Command, declared.entry.Entry.Entry}
use Rattle.pcm_base.specs.{declared.entry.SoundMove.SoundMove, Counters.Needs, Form.IsInForm, Run.CarriesOut, Run.Run}
use Rattle.pcm_base.specs.{Run.outside, Run.refusal_of, Run.result_of, Studio.Studio, Studio.fresh}

-- Nothing refuses a line, whatever it needs within its bounds: the studio goes on, no own test fails, no counter passes
-- its end, and no record is too long.
abbrev pub IsValid : Studio → Command → Type 0
IsValid t c =
    (sound : SoundMove) (blocks len : ℕ) → Needs (outside t sound) t (Line c) blocks len →
    refusal_of (outside t sound) t (Line c) blocks len ≡ None

-- a line can be carried out
pub record GoesOn (t : Studio) (c : Command) : Type 0 where
  pub sound : SoundMove
  pub reply : Reply
  pub next : Studio
  pub answered : result_of reply ≡ Ok reply
  pub step : CarriesOut t (Line c) sound reply next

-- Each line is in form, valid, and carried out by some step; and so are those after it, by whichever step it was.
abbrev pub AreValid : Studio → List Command → Type 0
AreValid t [] = Unit {0}
AreValid t (c ∷ cs) =
    IsInForm c × IsValid t c × GoesOn t c
    × ((sound : SoundMove) (reply : Reply) (next : Studio) → CarriesOut t (Line c) sound reply next → AreValid next cs)

-- valid in each fresh project that keeps two points or more, so that there is one to undo
abbrev pub AreAlwaysValid : List Command → Type 0
AreAlwaysValid cs = (rate block_size depth : ℕ) → 2 ≤ depth → AreValid (fresh rate block_size depth) cs

-- a run of the model that asks these lines in turn, and each is answered, none refused
pub record HasRun (t : Studio) (cs : List Command) : Type 0 where
  pub entries : List Entry
  pub end : Studio
  pub asked : map (λ e. e.call) entries ≡ map Line cs
  pub answered : All (λ e. IsOk (result_of e.reply)) entries
  pub run : Run t entries end

abbrev pub AlwaysHaveRun : List Command → Type 0
AlwaysHaveRun cs = (rate block_size depth : ℕ) → 2 ≤ depth → HasRun (fresh rate block_size depth) cs
