-- What is taken out is in the clipboard.
use Rattle.editor_core.proofs.Common.{sym, subst, List, Option, Item}
use Rattle.layout_uses.specs.Tallies.{uses_of}
use Rattle.editor_state.specs.{Edits.clip_then, Occurrences.MovesSingles, Studios.clip_blocks}
use Rattle.editor_core.proofs.studio.Studio.take_out.Goals as goal

pub returns-in-Some-clause-single : goal.returns-in-Some-clause-single
returns-in-Some-clause-single g c =
    let old = c.args.self.now in
    subst (λ (z : Option (List (List Item))). MovesSingles (uses_of old.tally) (uses_of c.take_clip.new.self.tally)
    (clip_blocks old.clipboard) (clip_blocks (clip_then z old.clipboard))) (sym c.in-Some.is) c.take_clip.ensures.single
