-- One track more is listed.
use Rattle.mix_reader.proofs.Common.{ℕ, List, [], ◌∷◌, ◌++◌, take, ap, sym, ◌∙◌, Track, take_some, heard_gains}
use Rattle.mix_reader.proofs.Common.{heard_sides}
use Rattle.mix_reader.proofs.HeardLaws.{gains_append, sides_append}
use Rattle.mix_reader.proofs.loads.list_heard.Goals as goal

pub rows-preserved : goal.rows-preserved
rows-preserved c =
    let ts : List Track = c.args.point.now in
    let i : ℕ = c.rows.i in
    let t : Track = c.track_at.result.now in
    record {
      gains = c.in_ok-list_track.ensures.gains ∙ ap (λ xs. xs ++ heard_gains (t ∷ [])) c.rows.invariant.gains
          ∙ sym (ap heard_gains (take_some ts i t c.track_at.ensures) ∙ gains_append (take i ts) (t ∷ []));
      sides = c.in_ok-list_track.ensures.sides ∙ ap (λ xs. xs ++ heard_sides (t ∷ [])) c.rows.invariant.sides
          ∙ sym (ap heard_sides (take_some ts i t c.track_at.ensures) ∙ sides_append (take i ts) (t ∷ []));
    }
