-- How far a call raises the commit number.
use Rattle.std.proofs.Common.{◌≡◌, ℕ, ◌+◌, Bool, true, false, refl, arith}
use Rattle.std.specs.Prelude.{if◌then◌else◌}
use Rattle.pcm_base.specs.Shape.{shape_of, is_commit}
use Rattle.pcm_base.specs.{declared.command.Call.Call, Counters.commits_of, Outside.Outside, State.State, Step.after}
use Rattle.pcm_base.specs.declared.command.Call.TheVariants as call

by_one : (commits : Bool) (n : ℕ) → (if commits then n + 1 else n) ≡ n + (if commits then 1 else 0)
by_one true n = refl
by_one false n = omega arith

pub call_commits : (out : Outside) (s : State) (c : Call) → (after out s c).commit ≡ s.commit + commits_of c
call_commits out s (call.Line c) = by_one (is_commit (shape_of c)) s.commit
call_commits out s (call.Piece track tag samples) = refl
call_commits out s _ = omega arith
