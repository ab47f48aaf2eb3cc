-- What is counted as named is what is named.
use Rattle.editor_core.proofs.Common.{refl, core_of}
use Rattle.editor_core.proofs.CountedBlocks.{blocks_are, are_named}
use Rattle.editor_core.proofs.studio.Studio.facts.Goals as goal

pub returns : goal.returns
returns g c =
    let s = core_of c.args.self.now in
    let named = c.named_len.ensures.ids in record {
      rate = refl;
      block_size = c.block_size.ensures.value;
      depth = c.depth.ensures.depth;
      points = c.len.ensures.len;
      cursor = c.cursor.ensures.cursor;
      blocks = (named.0, blocks_are g.S.Store s c.requires named.0 named.1, named.2);
      any = λ ids blocks. c.named_len.ensures.any ids (are_named g.S.Store s c.requires ids blocks);
    }
