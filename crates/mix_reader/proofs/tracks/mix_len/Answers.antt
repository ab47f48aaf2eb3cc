-- One track more.
use Rattle.mix_reader.proofs.Common.{◌≡◌, ◌+◌, List, [], ◌∷◌, drop, ap, arith, drop_all, mix_length, meant, Track}
use Rattle.mix_reader.proofs.Common.{drop_some, mix_length_of}
use Rattle.mix_reader.proofs.TrackLaws.{longest_first}
use Rattle.mix_reader.proofs.tracks.mix_len.Goals as goal

pub rows-init : goal.rows-init
rows-init c = record { value = omega arith; frames = λ src. omega arith; few = omega arith }

pub rows-preserved : goal.rows-preserved
rows-preserved c =
    let ts : List Track = c.args.point.now in
    let i = c.rows.i in
    let t : Track = c.track_at.result.now in
    let e : drop i ts ≡ t ∷ drop (i + 1) ts = drop_some ts i t c.track_at.ensures in
    let inv = c.rows.invariant in
    record {
      value = omega (arith, ap mix_length_of e, inv.value, c.heard_len.ensures.value, c.max-len.ensures);
      frames = λ src. omega (
        arith,
        ap (λ (us : List Track). mix_length (meant src us)) e,
        longest_first src t (drop (i + 1) ts),
        inv.frames src,
        c.heard_len.ensures.cells src,
        c.max-len.ensures,
      );
      few = omega (arith, inv.few, c.heard_len.ensures.few, c.max-len.ensures);
    }

pub returns-clause-value : goal.returns-clause-value
returns-clause-value c =
    let none : drop c.rows.i c.args.point.now ≡ [] = drop_all c.rows.i c.args.point.now (omega arith) in
    omega (arith, c.rows.invariant.value, ap mix_length_of none)

pub returns-clause-frames : goal.returns-clause-frames
returns-clause-frames c = λ src.
    let none : drop c.rows.i c.args.point.now ≡ [] = drop_all c.rows.i c.args.point.now (omega arith) in
    omega (arith, c.rows.invariant.frames src, ap (λ (us : List Track). mix_length (meant src us)) none)

pub returns-clause-few : goal.returns-clause-few
returns-clause-few c = c.rows.invariant.few
