-- The goals of `end_of` that the search leaves open.
use Rattle.clip_track.proofs.Common.{◌+◌, ap, ◌∙◌, arith, clip_end}
use Rattle.clip_track.proofs.Layouts.{end_of_last}
use Rattle.clip_track.proofs.clips.end_of.Goals as goal

pub overflow_add-result : goal.overflow_add-result
overflow_add-result c = omega (
  arith,
  c.last-item.is,
  ap clip_end c.last-item.is,
  end_of_last 0 c.args.clips.now c.last-item.result (omega (arith, c.in-len1-up.len_at_least)),
  c.requires.few,
  c.len.ensures.value,
)

pub returns-in-len1-up : goal.returns-in-len1-up
returns-in-len1-up c = ap (λ n. c.last-item.result.start + n) c.len.ensures.value ∙ ap clip_end c.last-item.is
    ∙ end_of_last 0 c.args.clips.now c.last-item.result (omega (arith, c.in-len1-up.len_at_least))
