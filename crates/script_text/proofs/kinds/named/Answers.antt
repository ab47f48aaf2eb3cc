-- The bytes of a name are a text.
use Rattle.script_text.proofs.NameLemmas.{name_is_text}
use Rattle.script_text.proofs.kinds.named.Goals as goal

pub unwrap-text-requires : goal.unwrap-text-requires
unwrap-text-requires c =
    c.from_utf8.ensures.succeeds (rw c.in_ok-bytes.ensures.items (name_is_text c.args.word.now c.requires))
