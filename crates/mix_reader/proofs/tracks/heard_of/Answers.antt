-- One more is put, where it is heard.
use Rattle.mix_reader.proofs.Common.{◌≡◌, ◌<◌, List, [], ◌∷◌, ◌++◌, length, take, ap, sym, ◌∙◌, arith, length-set}
use Rattle.mix_reader.proofs.Common.{map-append, take_all, Track, heard_tracks, track_gains, track_sides}
use Rattle.std.proofs.lemmas.List.{take_more_set}
use Rattle.mix_reader.proofs.TrackLaws.{heard_count_more, heard_more, heard_same}
use Rattle.mix_reader.proofs.tracks.heard_of.Goals as goal

pub rows-preserved : goal.rows-preserved
rows-preserved c =
    let ts : List Track = c.args.point.now in
    let i = c.rows.i in
    let n = c.rows.count in
    let t : Track = c.track_at-track.result.now in
    let inv = c.rows.invariant in
    let loud = c.if-track.false in
    let within : n < length c.rows.gains = omega (arith, inv.among, inv.gains_size, c.len-i-end.ensures.few) in
    let beside : n < length c.rows.sides = omega (arith, inv.among, inv.sides_size, c.len-i-end.ensures.few) in
    record {
      gains_size = length-set c.rows.gains n t.gain ∙ inv.gains_size;
      sides_size = length-set c.rows.sides n t.side ∙ inv.sides_size;
      among = omega (arith, inv.among);
      count = omega (arith, heard_count_more ts i t c.track_at-track.ensures loud, inv.count);
      gains = take_more_set c.rows.gains n t.gain within ∙ ap (λ xs. xs ++ t.gain ∷ []) inv.gains
          ∙ sym (ap track_gains (heard_more ts i t c.track_at-track.ensures loud)
          ∙ map-append (λ (u : Track). u.gain) (heard_tracks (take i ts)) (t ∷ []));
      sides = take_more_set c.rows.sides n t.side beside ∙ ap (λ xs. xs ++ t.side ∷ []) inv.sides
          ∙ sym (ap track_sides (heard_more ts i t c.track_at-track.ensures loud)
          ∙ map-append (λ (u : Track). u.side) (heard_tracks (take i ts)) (t ∷ []));
    }

pub rows-preserved-then-track : goal.rows-preserved-then-track
rows-preserved-then-track c =
    let ts : List Track = c.args.point.now in
    let i = c.rows.i in
    let t : Track = c.track_at-track.result.now in
    let inv = c.rows.invariant in
    let same = heard_same ts i t c.track_at-track.ensures c.if-track.true in
    record {
      gains_size = inv.gains_size;
      sides_size = inv.sides_size;
      among = omega (arith, inv.among);
      count = inv.count ∙ sym (ap length same);
      gains = inv.gains ∙ sym (ap track_gains same);
      sides = inv.sides ∙ sym (ap track_sides same);
    }

pub returns : goal.returns
returns c =
    let ts : List Track = c.args.point.now in
    let inv = c.rows.invariant in
    let all : take c.rows.i ts ≡ ts = take_all c.rows.i ts (omega arith) in
    record {
      count = inv.count ∙ ap (λ (us : List Track). length (heard_tracks us)) all;
      few = omega (arith, inv.among, c.len-i-end.ensures.few);
      gains = inv.gains ∙ ap (λ (us : List Track). track_gains (heard_tracks us)) all;
      sides = inv.sides ∙ ap (λ (us : List Track). track_sides (heard_tracks us)) all;
    }
