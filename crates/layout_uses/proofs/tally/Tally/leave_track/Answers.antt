-- The last use of a layout, or another one.
use Rattle.layout_uses.proofs.Common.{refl, sym, subst, ⊎_elim, ◌∙◌, count_of, counts_of, layout_blocks, list_of}
use Rattle.layout_uses.proofs.Common.{numbers_of, singles_of, uses_of, HasLayout, UnnamesLayout}
use Rattle.layout_uses.proofs.Times.{gone_counts, gone_ids}
use Rattle.layout_uses.proofs.Tracks.{has_last, left_listed, left_single, left_used, true_false}
use Rattle.layout_uses.proofs.tally.Tally.leave_track.Goals as goal

pub drop_layout-requires : goal.drop_layout-requires
drop_layout-requires c =
    let t = c.args.track.now in
    let has = c.requires in
    let o = c.args.self.now.ledger in
    let fresh = c.drop_one.ensures.fresh (numbers_of has.others) has.counted.fresh_uses in
    subst (λ cs. HasLayout o t.number (layout_blocks cs)) (sym c.as_slice.ensures.value)
    (has_last has.others has.blocks (uses_of c.args.self.now) (counts_of o) t has.counted
    (count_of c.drop_one.new.self) c.drop_one.ensures.counts fresh o refl refl refl
    (c.is_free.ensures.0 c.if-is_free.true))

pub returns-then-is_free : goal.returns-then-is_free
returns-then-is_free c =
    let t = c.args.track.now in
    let u = uses_of c.args.self.now in
    let o = c.args.self.now.ledger in
    let n = c.drop_layout.new.ledger in
    let unnamed : UnnamesLayout o n t.number (layout_blocks t.layout) =
    subst (λ cs. UnnamesLayout o n t.number (layout_blocks cs)) c.as_slice.ensures.value c.drop_layout.ensures in
    let less = gone_counts o n t.number (layout_blocks t.layout) unnamed in
    let free = c.is_free.ensures.0 c.if-is_free.true in
    record {
      counted = λ others blocks is.
          let fresh = c.drop_one.ensures.fresh (numbers_of others) is.fresh_uses in
          let fresh' = c.forget.ensures.fresh (numbers_of others) fresh in
          ⊎_elim
          (λ goes. left_listed others blocks u (counts_of o) t is (count_of c.drop_one.new.self)
          c.drop_one.ensures.counts fresh (count_of c.forget.new.self) (list_of n) (singles_of n) (counts_of n) free
          c.forget.ensures.counts fresh' less goes.1.lists.here goes.1.lists.others goes.0 goes.1.singles)
          (λ names. left_single others blocks u (counts_of o) t is (count_of c.drop_one.new.self)
          c.drop_one.ensures.counts fresh (count_of c.forget.new.self) (list_of n) (singles_of n) (counts_of n) free
          c.forget.ensures.counts fresh' less names.1.lists names.0 names.1.singles)
          unnamed;
      ids = gone_ids o n t.number (layout_blocks t.layout) unnamed;
      room = c.forget.ensures.spare ∙ c.drop_one.ensures.spare;
    }

pub returns-else-is_free : goal.returns-else-is_free
returns-else-is_free c =
    let t = c.args.track.now in
    let u = uses_of c.args.self.now in
    let o = counts_of c.args.self.now.ledger in
    record {
      counted = λ others blocks is.
          left_used others blocks u o t is (count_of c.drop_one.new.self) c.drop_one.ensures.counts
          (c.drop_one.ensures.fresh (numbers_of others) is.fresh_uses)
          (λ free. true_false (sym (c.is_free.ensures.1 free) ∙ c.if-is_free.false));
      ids = λ id. (λ h. h, λ h. h);
      room = c.drop_one.ensures.spare;
    }
