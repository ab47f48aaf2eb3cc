-- The goals of `name_clips` that the search leaves open.
use Rattle.edit_ops.proofs.Common.{◌≡◌, ◌++◌, List, [], ◌∷◌, refl, sym, ap, subst, ◌∙◌, append_assoc, arith, append-nil}
use Rattle.edit_ops.proofs.Common.{into_iter_items, LaidClip, named}
use Rattle.std.proofs.{lemmas.Grind.common_steps}
use Rattle.edit_ops.proofs.Named.{AllLaid, AllLaid-from, count_laid_le, half_full_named, none_empty, len_named}
use Rattle.edit_ops.proofs.Named.{next_after_le, IsLayout-named}
use Rattle.clip_track.proofs.KeptLists.{keeps_none}
use Rattle.edit_ops.specs.LaidClips as laid
use Rattle.edit_ops.proofs.planning.name_clips.Goals as goal

pub loop-clip-init : goal.loop-clip-init
loop-clip-init c =
    let items = c.args.clips.items in
    let e = c.into_iter-clip-iterator.ensures.into_iter_gives.0 in
    let n = count_laid_le c.args.planner.block_size 0 0 items c.args.planner.some (omega arith) c.requires.apart in
    rw (e, c.new-out.ensures.items, c.new-makes.ensures.items) (record {
      can_next = tt;
      is_finite = tt;
      each = AllLaid-from c.args.planner.block_size 0 0 items c.requires.apart c.requires.few;
      room = omega (arith, n, c.requires.few, c.args.planner.room);
      all_clips = refl;
      all_makes = refl;
      same_next = refl;
    })

-- the clip that was taken is laid out as it should be
taken : (c : goal.In_ok-named) → AllLaid c.args.planner.block_size (c.in-Some.clip ∷ into_iter_items c.next.new.self)
taken c =
    let P : List LaidClip → Type 0 = AllLaid c.args.planner.block_size in
    subst P c.in-Some.ensures.steps.0 c.loop-clip.invariant.each

pub new-requires-clause-full : goal.new-requires-clause-full
new-requires-clause-full c = rw c.in_ok-named.ensures.blocks (
  c.args.planner.block_size,
  half_full_named c.args.planner.block_size c.loop-clip.id c.in-Some.clip.laid.items (taken c).0,
)

pub new-requires-clause-none_empty : goal.new-requires-clause-none_empty
new-requires-clause-none_empty c = rw c.in_ok-named.ensures.blocks (
    none_empty c.args.planner.block_size (named c.loop-clip.id c.in-Some.clip.laid.items) c.args.planner.some
    (half_full_named c.args.planner.block_size c.loop-clip.id c.in-Some.clip.laid.items (taken c).0))

pub new-requires-clause-few : goal.new-requires-clause-few
new-requires-clause-few c =
    rw c.in_ok-named.ensures.blocks (omega (arith, len_named c.loop-clip.id c.in-Some.clip.laid.items, (taken c).1))

pub loop-clip-preserved : goal.loop-clip-preserved
loop-clip-preserved c =
    let rest = into_iter_items c.next.new.self in
    let s = c.in-Some.ensures.steps.0 in
    let inv = c.loop-clip.invariant in
    let id = c.loop-clip.id in
    let ls = c.in-Some.clip.laid.items in
    let P : List LaidClip → Type 0 = AllLaid c.args.planner.block_size in
    let n = ap laid.count_laid s in
    rw (
      c.in_ok-push.ensures.items,
      c.in_ok-blocks.ensures,
      c.in_ok-named.ensures.blocks,
      c.in_ok-named.ensures.makes,
      c.in_ok-named.ensures.next,
    ) (record {
      can_next = tt;
      is_finite = tt;
      each = (subst P s inv.each).2;
      room = omega (arith, n, next_after_le id ls, inv.room);
      all_clips =
          append_assoc c.loop-clip.out.items _ _
          ∙ ap (λ (xs : List LaidClip). c.loop-clip.out.items ++ laid.named_clips id xs) (sym s)
          ∙ inv.all_clips;
      all_makes =
          append_assoc c.loop-clip.makes.items _ _
          ∙ ap (λ (xs : List LaidClip). c.loop-clip.makes.items ++ laid.clips_new_blocks id xs) (sym s)
          ∙ inv.all_makes;
      same_next = ap (laid.clips_next id) (sym s) ∙ inv.same_next;
    })

pub from_clips-requires : goal.from_clips-requires
from_clips-requires c =
    let none : into_iter_items c.loop-clip.clip-iterator ≡ [] = grind (arith, common_steps) in
    let e : c.loop-clip.out.items ≡ laid.named_clips c.args.planner.next c.args.clips.items =
    sym (append-nil c.loop-clip.out.items)
    ∙ ap (λ (xs : List LaidClip). c.loop-clip.out.items ++ laid.named_clips c.loop-clip.id xs) (sym none)
    ∙ c.loop-clip.invariant.all_clips in
    rw e (IsLayout-named c.args.planner.block_size c.args.planner.next c.args.clips.items c.args.planner.some
    c.requires.apart c.requires.few)

pub returns-clause-kept : goal.returns-clause-kept
returns-clause-kept c old = keeps_none _ old _ c.none.ensures.front c.none.ensures.back
