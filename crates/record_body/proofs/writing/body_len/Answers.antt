use Rattle.record_body.proofs.Common.{arith}
use Rattle.record_body.proofs.{DeltaLengths.diff_short, Lengths.tracks_short}
use Rattle.record_body.proofs.writing.body_len.Goals as goal

pub returns-in-Edit-clause-most : goal.returns-in-Edit-clause-most
returns-in-Edit-clause-most c = rw c.in-Edit.is (λ src m some half. omega (
  arith,
  tracks_short src m c.in-Edit.point some c.tracks_len.ensures.tracks c.tracks_len.ensures.layouts half,
  c.tracks_len.ensures.value,
))

pub returns-in-Edit-clause-told : goal.returns-in-Edit-clause-told
returns-in-Edit-clause-told c = rw c.in-Edit.is (λ src m current some half. omega (
  arith,
  diff_short src m current c.in-Edit.point some c.tracks_len.ensures.tracks c.tracks_len.ensures.layouts half,
))
