-- The stretches are mixed.
use Rattle.mix_reader.proofs.Common.{◌+◌, length, arith, stored_of}
use Rattle.mix_reader.proofs.TrackLaws.{rests_few, rests_later}
use Rattle.mix_reader.proofs.stretches.mix_stretch.Goals as goal

pub returns-clause-stored : goal.returns-clause-stored
returns-clause-stored g c = λ told.
    c.mix_samples.ensures (stored_of (g.S.Store.reads c.args.reader.now.store)) c.args.mix.now.at
    (c.in_ok-read_stretches.ensures.stored told)

pub returns-clause-reader : goal.returns-clause-reader
returns-clause-reader g c =
    let r = c.args.mix.now in
    record {
      heard = c.requires.reader.heard;
      rests = rests_later r.at (r.at + length c.mix_samples.new.out) r.point.now c.read_stretches.new.passes
          (omega arith) c.read_stretches.ensures.rests;
    }

pub read_stretches-requires-clause-tracks : goal.read_stretches-requires-clause-tracks
read_stretches-requires-clause-tracks g c =
    let r = c.args.mix.now in
    rests_few r.at r.point.now r.passes c.requires.reader.rests
