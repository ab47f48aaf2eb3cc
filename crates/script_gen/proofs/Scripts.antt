-- What is known of the script of a number.
use Rattle.std.proofs.Common.{◌≡◌, ℕ, ◌≤◌, List, length, sym, subst, arith}
use Rattle.pcm_base.specs.{declared.command.Command.Command, Studio.fresh}
use Rattle.script_gen.specs.Room.{EachNeedsAtMost, HaveRoom, script_project}
use Rattle.script_gen.specs.{Script.script_of, Validity.AlwaysHaveRun, Validity.AreAlwaysValid}
use Rattle.script_gen.proofs.Rooms.{few-room, script-few}
use Rattle.script_gen.proofs.{LineLists.length-script_of, Runs.valid-run, Valid.script-valid}

-- all that is promised of the lines
pub record AreGood (lines : ℕ) (cs : List Command) : Type 0 where
  pub count : length cs ≡ lines
  pub valid : AreAlwaysValid cs
  pub run : AlwaysHaveRun cs
  pub needs : EachNeedsAtMost script_project cs 11 6872
  pub room : HaveRoom cs

script-good : (number lines : ℕ) → 2 ≤ lines → lines ≤ 4096 → AreGood lines (script_of number lines)
script-good number lines least most =
    let cs = script_of number lines in
    let count = length-script_of number lines least in
    let valid = script-valid number lines most least in
    let needs = script-few number lines in
    record {
      count = count;
      valid = valid;
      run = λ rate block_size depth room. valid-run (fresh rate block_size depth) cs (valid rate block_size depth room);
      needs = needs;
      room = few-room cs (omega arith) needs;
    }

pub made-good : (number lines : ℕ) (cs : List Command) → 2 ≤ lines → lines ≤ 4096 → cs ≡ script_of number lines →
    AreGood lines cs
made-good number lines cs least most e = subst (AreGood lines) (sym e) (script-good number lines least most)
