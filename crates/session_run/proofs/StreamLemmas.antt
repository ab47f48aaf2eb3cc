-- What was written to a sink, by its count of faults, and a source that was not read.
use Rattle.session_run.proofs.Common.{ℕ, List, length, Option, Result, Ok, Err, sym, ap, ◌∙◌, arith, grown, change}
use Rattle.session_run.proofs.Common.{IsReadOn, PrintsFrom}
use Rattle.std.proofs.lemmas.List.{take_all}
use Rattle.pcm_base.specs.{declared.failed.Failed.Failed, Causes.HasCause}
use Rattle.edit_ports.specs.Told.{Open, Writes}
use Rattle.edit_ports.specs.declared.source.Source as source

pub prints : (r : Result (Unit {0}) Failed) (count count_now : ℕ) (old new : Option (List ℕ)) (text : List ℕ)
    → HasCause count count_now r → Writes r old new text
    → PrintsFrom (record { written = change old new; faults = change count count_now }) text
prints (Ok u) count count_now old new text c w =
    ((length text, omega arith, w ∙ ap (grown old) (sym (take_all (length text) text (omega arith)))), λ quiet. w)
prints (Err failed) count count_now old new text c (n, within, is) =
    ((n, omega (arith, within), is), λ quiet. absurd (quiet c.failed))

pub unread : {A : Type 0} (sources : source.Ghosts A) (script : A) → IsReadOn sources (change script script)
unread sources script = record { course = Open; goes = λ first h. h }
