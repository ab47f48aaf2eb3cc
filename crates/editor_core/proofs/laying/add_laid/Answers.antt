-- The track that stands for one has its id.
use Rattle.editor_core.proofs.Common.{◌≡◌, ◌∙◌, sym, ap, subst, ℕ, Option, slice_get-get_or, Track, AllBelow, laid_or}
use Rattle.std.proofs.Common.{get_or}
use Rattle.editor_core.proofs.laying.add_laid.Goals as goal

pub add-requires : goal.add-requires
add-requires c =
    let ts = c.args.project.now in
    let i = c.args.index in
    let track = c.in-Some.track in
    let old : Track = get_or ts i track in
    let at = slice_get-get_or ts i track c.requires.within in
    let same : track.id ≡ old.id =
    ap (λ (o : Option Track). (laid_or old o).id) (sym c.in-Some.is) ∙ c.requires.same old at in
    record { above = subst (λ (n : ℕ). AllBelow n c.args.point.now) (sym same) (c.requires.above old at) }
