-- Digits alone so far.
use Rattle.std.proofs.Common.{◌≡◌, drop}
use Rattle.case_text.specs.Alike.{without_digits}
use Rattle.case_text.proofs.comparing.without_digits.Given as goal

abbrev pub invariant-loop-i : goal.invariant-loop-i
invariant-loop-i l = without_digits l.text ≡ without_digits (drop l.i l.text)
