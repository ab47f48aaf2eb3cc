-- A root that is tested is the one that is meant.
use Rattle.std.proofs.Common.{◌∙◌}
use Rattle.pcm_base.proofs.RootLemmas.{root_is}
use Rattle.script_text.proofs.roots.root.Goals as goal

pub returns-then-is_root : goal.returns-then-is_root
returns-then-is_root c =
    let below = c.is_root.ensures.below c.if-is_root.true in
    let above = c.is_root.ensures.above c.if-is_root.true in
    c.from-then-is_root.ensures ∙ root_is c.args.n c.saturating_f64_to_u32-root.result below above
