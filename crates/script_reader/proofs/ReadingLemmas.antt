-- The reading of a script, one buffer on, and its end.
use Rattle.std.proofs.Common.{◌≡◌, ℕ, ◌+◌, ◌^◌, ◌<◌, List, [], ◌∷◌, ◌++◌, length, Option, Ok, Err, refl, sym, ap, ◌∙◌}
use Rattle.std.proofs.Common.{subst, arith}
use Rattle.std.proofs.lemmas.List.{append-nil, length-append}
use Rattle.std.specs.Io.KnownBytes.{IsAtEnd}
use Rattle.pcm_base.specs.declared.failed.Failed.{Failed}
use Rattle.edit_ports.specs.Told.{preceded}
use Rattle.edit_ports.proofs.ToldLaws.{preceded-nil, preceded-preceded}
use Rattle.script_reader.specs.Progress.{Cut, Going, Halted, Printed, Reading, Ended, Ran, IsCut, IsEndCut, IsCauseOf}
use Rattle.script_reader.specs.Progress.{IsSinkCauseOf, Reached}
use Rattle.script_reader.specs.{declared.stop.Stop.Stop, Change.Change, Change.change, HeldLine.HeldLine}
use Rattle.script_reader.specs.{HeldLine.Holds}
use Rattle.script_reader.proofs.CutLemmas.{Cut-ended, Cut-end, Cut-last}
use Rattle.script_reader.specs.declared.stop.Stop.TheVariants as stop

pub Ended-nothing : (r : Reached) (kept : HeldLine) (read : List ℕ) → ((part : List ℕ) → Holds kept part → part ≡ [])
    → Going r kept read → Ended stop.End r read
Ended-nothing r kept read none g = record {
  lines = g.lines;
  cut = Cut-end read g.lines (subst (λ (p : List ℕ). Cut read g.lines p) (none g.part g.holds) g.cut);
  printed = g.printed;
}

pub Ended-line : (r q : Reached) (kept : HeldLine) (read : List ℕ) →
    ((part : List ℕ) → Holds kept part → 0 < length part) →
    ((lines : List (List ℕ)) (part : List ℕ) → Holds kept part → Printed r (Ok tt) lines
    → Printed q (Ok tt) (lines ++ part ∷ [])) →
    Going r kept read → Ended stop.End q read
Ended-line r q kept read some answers g = record {
  lines = g.lines ++ g.part ∷ [];
  cut = Cut-last read g.lines g.part (some g.part g.holds) g.cut;
  printed = answers g.lines g.part g.holds g.printed;
}

pub Ended-fault : (r q : Reached) (kept : HeldLine) (failed : Failed) (read : List ℕ) →
    ((part : List ℕ) → Holds kept part → 0 < length part) →
    ((lines : List (List ℕ)) (part : List ℕ) → Holds kept part → Printed r (Ok tt) lines
    → Printed q (Err failed) (lines ++ part ∷ [])) →
    Going r kept read → Ended stop.OutFault q read
Ended-fault r q kept failed read some answers g = record {
  lines = g.lines ++ g.part ∷ [];
  cut =
      ([], sym (Cut-last read g.lines g.part (some g.part g.holds) g.cut) ∙ sym (append-nil (g.lines ++ g.part ∷ [])));
  printed = answers g.lines g.part g.holds g.printed;
}

pub Reading-start : (r : Reached) (left : Option (List ℕ)) (kept : HeldLine) → Going r kept []
    → Reading r (change left left) kept 0
Reading-start r left kept g = record { read = []; bytes = sym (preceded-nil left); count = refl; going = g }

pub Reading-more : (r q : Reached) (left mid new : Option (List ℕ)) (kept kept' : HeldLine) (total count : ℕ)
    (buffer : List ℕ) → mid ≡ preceded buffer new → length buffer ≡ count
    → ((read : List ℕ) → Going r kept read → Going q kept' (read ++ buffer)) → Reading r (change left mid) kept total
    → Reading q (change left new) kept' (total + count)
Reading-more r q left mid new kept kept' total count buffer moves long goes h = record {
  read = h.read ++ buffer;
  bytes = h.bytes ∙ ap (preceded h.read) moves ∙ preceded-preceded new h.read buffer;
  count = omega (arith, length-append h.read buffer, h.count);
  going = goes h.read h.going;
}

pub Ran-source : (r : Reached) (left mid new : Option (List ℕ)) (kept : HeldLine) (total : ℕ) → new ≡ mid
    → Reading r (change left mid) kept total → Ran stop.SourceFault r (change left new)
Ran-source r left mid new kept total same h = record {
  read = h.read;
  lines = h.going.lines;
  bytes = h.bytes ∙ ap (preceded h.read) (sym same);
  cut = Cut-ended h.read h.going.lines h.going.part h.going.cut;
  printed = h.going.printed;
}

pub Ran-limit : (r : Reached) (left new : Option (List ℕ)) (kept : HeldLine) (total : ℕ) → total ≡ 2 ^ 32
    → Reading r (change left new) kept total → Ran stop.Limit r (change left new)
Ran-limit r left new kept total full h = record {
  read = h.read;
  lines = h.going.lines;
  bytes = h.bytes;
  cut = (Cut-ended h.read h.going.lines h.going.part h.going.cut, h.count ∙ full);
  printed = h.going.printed;
}

at_end : (stop : Stop) (read : List ℕ) (lines : List (List ℕ)) (left : Option (List ℕ)) → length read < 2 ^ 32
    → IsAtEnd left → IsEndCut stop read lines → IsCut stop read lines left
at_end stop.End read lines left l h c = (c, l, h)
at_end stop.SourceFault read lines left l h c = absurd c
at_end stop.Limit read lines left l h c = absurd c
at_end stop.OutFault read lines left l h c = c

pub Ran-end : (stop : Stop) (r q : Reached) (left mid new : Option (List ℕ)) (kept : HeldLine) (total : ℕ) →
    total < 2 ^ 32 → mid ≡ preceded [] new → IsAtEnd new →
    ((read : List ℕ) → Going r kept read → Ended stop q read) →
    Reading r (change left mid) kept total → Ran stop q (change left new)
Ran-end stop r q left mid new kept total below moves last ends h =
    let e = ends h.read h.going in
    record {
      read = h.read;
      lines = e.lines;
      bytes = h.bytes ∙ ap (preceded h.read) (moves ∙ preceded-nil new);
      cut = at_end stop h.read e.lines new (omega (arith, h.count)) last e.cut;
      printed = e.printed;
    }

pub Ran-out : (r q : Reached) (left mid new : Option (List ℕ)) (kept : HeldLine) (failed : Failed) (total : ℕ)
    (buffer : List ℕ) → mid ≡ preceded buffer new →
    ((read : List ℕ) → Going r kept read → Halted q failed (read ++ buffer)) →
    Reading r (change left mid) kept total → Ran stop.OutFault q (change left new)
Ran-out r q left mid new kept failed total buffer moves halts h =
    let s = halts h.read h.going in
    record {
      read = h.read ++ buffer;
      lines = s.lines;
      bytes = h.bytes ∙ ap (preceded h.read) moves ∙ preceded-preceded new h.read buffer;
      cut = rw (append-nil (h.read ++ buffer)) at (s.cut []);
      printed = s.printed;
    }

pub end_cause : (stop : Stop) (source sink : Change ℕ) → source.now ≡ source.before → IsSinkCauseOf stop sink
    → IsCauseOf stop source sink
end_cause stop.End source sink e c = (e, c)
end_cause stop.Limit source sink e c = absurd c
end_cause stop.SourceFault source sink e c = absurd c
end_cause stop.OutFault source sink e c = (e, c.0, c.1)
