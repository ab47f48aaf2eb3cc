-- By the version.
use Rattle.journal_replay.proofs.Common.{arith, map, unnumbered}
use Rattle.record_body.proofs.ShortEnds.{valid_half}
use Rattle.journal_replay.proofs.Versions.{reads_old, reads_diff, shares_old}
use Rattle.journal_replay.proofs.reading.read_record.Goals as goal

pub returns-then-version-lt2-clause-found : goal.returns-then-version-lt2-clause-found
returns-then-version-lt2-clause-found c =
    reads_old c.args.version c.args.m c.args.before (map unnumbered c.args.current.now) c.args.bytes.now
    c.read_body.result (omega (arith, c.if-version-lt2.true)) c.read_body.ensures.found

pub returns-then-version-lt2-clause-shared : goal.returns-then-version-lt2-clause-shared
returns-then-version-lt2-clause-shared c =
    shares_old c.args.m c.args.before c.args.current.now c.args.bytes.now c.read_body.result c.read_body.ensures.found

pub read_delta_body-requires : goal.read_delta_body-requires
read_delta_body-requires c =
    valid_half c.args.m c.args.before.next_block c.args.before.next_track c.args.current.now c.requires

pub returns-clause-found : goal.returns-clause-found
returns-clause-found c =
    reads_diff c.args.version c.args.m c.args.before c.args.current.now c.args.bytes.now c.read_delta_body.result
    (omega (arith, c.if-version-lt2.false)) c.read_delta_body.ensures.found
    (c.read_delta_body.ensures.valid c.args.before.next_track c.requires)
