-- A script, some bytes on.
use Rattle.std.proofs.Common.{ℕ, List, [], ◌∷◌, ◌++◌, false, Result, Ok, Err, MatchResult, append_assoc}
use Rattle.pcm_base.specs.declared.failed.Failed.{Failed}
use Rattle.script_text.specs.Lines.{lines_of}
use Rattle.script_reader.specs.HeldLine.{HeldLine, Holds}
use Rattle.script_reader.specs.Progress.{HasNoLf, Going, Halted, Printed, Reached, Start, reached}
use Rattle.script_reader.proofs.CutLemmas.{Cut-start, Cut-more, Cut-lf}
use Rattle.script_reader.proofs.AnsweringLemmas.{Printed-start}

pub Going-start : (s : Start) (kept : HeldLine) → Holds kept [] → Going (reached s s.place s.written false) kept []
Going-start s kept holds =
    record { lines = []; part = []; cut = Cut-start; holds = holds; printed = Printed-start s }

pub Going-more : (r : Reached) (kept kept' : HeldLine) (read bytes : List ℕ) → HasNoLf bytes
    → ((part : List ℕ) → Holds kept part → Holds kept' (part ++ bytes)) → Going r kept read
    → Going r kept' (read ++ bytes)
Going-more r kept kept' read bytes n grows g = record {
  lines = g.lines;
  part = g.part ++ bytes;
  cut = Cut-more read g.lines g.part bytes n g.cut;
  holds = grows g.part g.holds;
  printed = g.printed;
}

pub Going-lf : (r q : Reached) (kept kept' : HeldLine) (result : Result (Unit {0}) Failed) (read : List ℕ) →
    ((lines : List (List ℕ)) (part : List ℕ) → Holds kept part → Printed r (Ok tt) lines
    → Printed q result (lines ++ part ∷ [])) →
    Holds kept' [] → Going r kept read →
    MatchResult result (λ _. Going q kept' (read ++ 10 ∷ [])) (λ failed. Halted q failed (read ++ 10 ∷ []))
Going-lf r q kept kept' (Ok x) read answers holds g = record {
  lines = g.lines ++ g.part ∷ [];
  part = [];
  cut = Cut-lf read g.lines g.part g.cut;
  holds = holds;
  printed = answers g.lines g.part g.holds g.printed;
}
Going-lf r q kept kept' (Err failed) read answers holds g =
    let c = Cut-lf read g.lines g.part g.cut in
    record {
      lines = g.lines ++ g.part ∷ [];
      cut = λ more. (lines_of more, c.whole more);
      printed = answers g.lines g.part g.holds g.printed;
    }

-- what follows the line whose answer failed is not carried out
pub Halted-more : (r : Reached) (failed : Failed) (read more : List ℕ) → Halted r failed read
    → Halted r failed (read ++ more)
Halted-more r failed read more h = record {
  lines = h.lines;
  cut = λ later. rw (append_assoc read more later) (h.cut (more ++ later));
  printed = h.printed;
}
