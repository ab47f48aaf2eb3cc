-- One part more is read.
use Rattle.memory_disk.proofs.Common.{◌≡◌, ◌+◌, ◌∙◌, ℕ, suc, List, length, get_or, refl, arith, ap, sym}
use Rattle.memory_disk.proofs.Common.{reads_of, Files}
use Rattle.disk_model.specs.declared.parts.Part.{Part}
use Rattle.disk_model.specs.Parts.{part_samples, put_at}
use Rattle.disk_model.proofs.Buffers.{filled_more, parts_at}
use Rattle.memory_disk.proofs.PartReads.{there_at, there_more}
use Rattle.memory_disk.proofs.parts.read_in_turn.Goals as goal

abbrev none : Part
none = record { file = 0; at = 0; to = 0; len = 0 }

pub read_part-requires : goal.read_part-requires
read_part-requires c =
    let h = parts_at c.args.parts.now 0 (length c.args.out.now) c.parts.part-index none c.requires c.parts-test.true in
    record { within = omega (arith, h.2, c.parts.auto.out); few = h.1 }

pub returns-then-not-read_part-clause-there : goal.returns-then-not-read_part-clause-there
returns-then-not-read_part-clause-there c = (
  λ yes. absurd cc,
  λ all. absurd (cc (c.read_part.ensures.there.1
      (there_at (reads_of c.args.log.now.history) c.args.parts.now c.parts.part-index none all c.parts-test.true))),
)

pub parts-preserved : goal.parts-preserved
parts-preserved c =
    let ps : List Part = c.args.parts.now in
    let k : ℕ = c.parts.part-index in
    let files : Files = reads_of c.args.log.now.history in
    let p : Part = get_or ps k none in
    let next : k + 1 ≡ suc k = omega arith in
    record {
      there = there_more files ps k (k + 1) none c.parts-test.true refl c.parts.invariant.there
          (c.read_part.ensures.there.0 c.if-not-read_part.false);
      read = c.read_part.ensures.read c.if-not-read_part.false
          ∙ ap (put_at p.to (part_samples files p)) c.parts.invariant.read
          ∙ sym (filled_more files ps k (k + 1) none c.args.out.now c.parts-test.true next);
    }
