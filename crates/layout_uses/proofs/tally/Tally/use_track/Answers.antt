-- The first use of a layout, or a further one.
use Rattle.layout_uses.proofs.Common.{sym, subst, ⊎_elim, ◌∙◌, [], arith, count_of, counts_of, layout_blocks, list_of}
use Rattle.layout_uses.proofs.Common.{numbers_of, singles_of, uses_of, NamesLayout}
use Rattle.layout_uses.proofs.Times.{layout_counts, layout_ids, named_append}
use Rattle.layout_uses.proofs.Tracks.{came_again, came_listed, came_single, none_is, some_is, numbers_length}
use Rattle.layout_uses.proofs.tally.Tally.use_track.Goals as goal

pub returns-then-is_first : goal.returns-then-is_first
returns-then-is_first c =
    let t = c.args.track.now in
    let u = uses_of c.args.self.now in
    let o = c.args.self.now.ledger in
    let n = c.hold_layout.new.ledger in
    let named : NamesLayout o n t.number (layout_blocks t.layout) =
    subst (λ cs. NamesLayout o n t.number (layout_blocks cs)) c.as_slice.ensures.value c.hold_layout.ensures in
    let none = none_is (u.counts t.number) (sym c.is_unused-is_first.ensures ∙ c.if-is_first.true) in
    let more = layout_counts o n t.number (layout_blocks t.layout) named in
    record {
      counted = λ others blocks few is.
          let fresh = c.hold.ensures.fresh (numbers_of others) (omega (arith, few, numbers_length others))
          is.fresh_uses in
          ⊎_elim
          (λ comes. came_listed others blocks u (counts_of o) is t (count_of c.hold.new.self) c.hold.ensures.counts fresh
          (list_of n) (singles_of n) (counts_of n) none comes.lists.here comes.lists.others comes.singles more)
          (λ names. came_single others blocks u (counts_of o) is t (count_of c.hold.new.self) c.hold.ensures.counts fresh
          (list_of n) (singles_of n) (counts_of n) none names.lists names.singles more)
          named;
      ids = layout_ids o n t.number (layout_blocks t.layout) named;
      most = λ id. omega (arith, more id, named_append id (layout_blocks t.layout) []);
      room = c.hold.ensures.spare;
    }

pub returns-else-is_first : goal.returns-else-is_first
returns-else-is_first c =
    let t = c.args.track.now in
    let u = uses_of c.args.self.now in
    let o = counts_of c.args.self.now.ledger in
    record {
      counted = λ others blocks few is.
          came_again others blocks u o is t (count_of c.hold.new.self) c.hold.ensures.counts
          (c.hold.ensures.fresh (numbers_of others) (omega (arith, few, numbers_length others)) is.fresh_uses)
          (some_is (u.counts t.number) (sym c.is_unused-is_first.ensures ∙ c.if-is_first.false));
      ids = λ id. (λ h. h, λ h. h);
      most = λ id. omega arith;
      room = c.hold.ensures.spare;
    }
