-- The text is as wanted if its rest is as what is left of that.
use Rattle.std.proofs.Common.{◌≡◌, drop}
use Rattle.case_text.specs.Alike.{is_numbered}
use Rattle.case_text.proofs.comparing.is_numbered.Given as goal

abbrev pub invariant-loop-byte : goal.invariant-loop-byte
invariant-loop-byte l = is_numbered l.wanted l.text ≡ is_numbered (drop l.byte-index l.wanted) l.rest
