-- Layouts of one number are the same, and others are compared.
use Rattle.record_body.proofs.Common.{◌∙◌, sym, arith}
use Rattle.record_body.proofs.{Agreeing.alike_are_same, ByClips.by_clips, ByClips.same_told}
use Rattle.record_body.proofs.changes.choose.Goals as goal

pub returns-then-same_number-clause-value : goal.returns-then-same_number-clause-value
returns-then-same_number-clause-value c = same_told c.args.old.now c.args.new.now
    (sym c.same_settings.ensures ∙ c.if-not-same_settings.false)
    (alike_are_same c.args.old.now c.args.new.now c.requires.numbers
    (sym c.same_number.ensures ∙ c.if-same_number.true))

pub returns-clause-value : goal.returns-clause-value
returns-clause-value c = search (
  arith,
  c.clips_change.ensures.value,
  c.as_slice.ensures.value,
  c.as_slice-2.ensures.value,
  by_clips c.args.old.now c.args.new.now (sym c.same_settings.ensures ∙ c.if-not-same_settings.false),
)
