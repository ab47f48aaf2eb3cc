-- The goals of `change_strip` that the search leaves open.
use Rattle.edit_ops.proofs.ChangedItems.{strip_len_change, AreItems_change}
use Rattle.edit_ops.proofs.changing.change_strip.Goals as goal

pub from_items-requires-clause-ok : goal.from_items-requires-clause-ok
from_items-requires-clause-ok c = rw (c.in_ok-items.ensures, c.as_slice.ensures.value)
    (AreItems_change c.args.change c.args.strip.now c.as_slice.ensures.ok)

pub from_items-requires-clause-room : goal.from_items-requires-clause-room
from_items-requires-clause-room c =
    rw (c.in_ok-items.ensures, c.as_slice.ensures.value, strip_len_change) c.as_slice.ensures.small

pub returns-clause-len : goal.returns-clause-len
returns-clause-len c = rw (c.from_items.ensures, c.in_ok-items.ensures, c.as_slice.ensures.value)
    (strip_len_change c.args.change c.args.strip.now)
