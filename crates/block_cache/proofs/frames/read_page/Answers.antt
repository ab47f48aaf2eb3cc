-- A page that is kept is right, and otherwise it is read, or the frames alone.
use Rattle.block_cache.proofs.Common.{Bool, ap, ◌+◌, ◌∙◌, length, frame_count, frame_len, level_place, frames_end}
use Rattle.block_cache.proofs.Common.{kept_none}
use Rattle.block_cache.proofs.CacheLaws.{keeps_same, keeps_turn, right_same}
use Rattle.block_cache.proofs.PageLaws.{kept_frames, page_last}
use Rattle.block_cache.proofs.frames.read_page.Goals as goal

pub returns-then-copy_frames-clause-cache : goal.returns-then-copy_frames-clause-cache
returns-then-copy_frames-clause-cache g c = keeps_same c.copy_frames.ensures.same

pub returns-then-copy_frames-clause-frames : goal.returns-then-copy_frames-clause-frames
returns-then-copy_frames-clause-frames g c = λ told.
    let p = c.args.part in
    (kept_frames _ c.args.cache.now p.once p.level p.block p.from (length c.args.out.now) _ _ (c.requires.cached told)
    c.frame_key-key.ensures c.requires.some c.requires.one c.requires.within
    (c.copy_frames.ensures.there c.if-copy_frames.true)).frames

pub returns-then-copy_frames-clause-header : goal.returns-then-copy_frames-clause-header
returns-then-copy_frames-clause-header g c = λ told.
    let p = c.args.part in
    (kept_frames _ c.args.cache.now p.once p.level p.block p.from (length c.args.out.now) _ _ (c.requires.cached told)
    c.frame_key-key.ensures c.requires.some c.requires.one c.requires.within
    (c.copy_frames.ensures.there c.if-copy_frames.true)).header

pub returns-then-copy_frames-clause-whole : goal.returns-then-copy_frames-clause-whole
returns-then-copy_frames-clause-whole g c = λ told.
    let p = c.args.part in
    (kept_frames _ c.args.cache.now p.once p.level p.block p.from (length c.args.out.now) _ _ (c.requires.cached told)
    c.frame_key-key.ensures c.requires.some c.requires.one c.requires.within
    (c.copy_frames.ensures.there c.if-copy_frames.true)).whole

pub returns-then-copy_frames-clause-kept : goal.returns-then-copy_frames-clause-kept
returns-then-copy_frames-clause-kept g c = kept_none _ (g.met.S.Store.may_fewer _)

pub load_page-requires-clause-cached : goal.load_page-requires-clause-cached
load_page-requires-clause-cached g c = λ told. right_same _ _ _ c.copy_frames.ensures.same (c.requires.cached told)

pub read_alone-requires-clause-cached : goal.read_alone-requires-clause-cached
read_alone-requires-clause-cached g c = λ told. right_same _ _ _ c.copy_frames.ensures.same (c.requires.cached told)

pub returns-then-part-clause-cache : goal.returns-then-part-clause-cache
returns-then-part-clause-cache g c = keeps_turn _ _ _ c.args.cache.now c.copy_frames.new.self c.read_alone.new.cache
    (keeps_same c.copy_frames.ensures.same) c.read_alone.ensures.cache

pub returns-clause-cache : goal.returns-clause-cache
returns-clause-cache g c = keeps_turn _ _ _ c.args.cache.now c.copy_frames.new.self c.load_page.new.cache
    (keeps_same c.copy_frames.ensures.same) c.load_page.ensures.cache

pub returns-clause-damaged : goal.returns-clause-damaged
returns-clause-damaged g c =
    let p = c.args.part in
    let n = length c.args.out.now in
    rw (ap (λ (o : Bool). frames_end o p.level p.block (p.from + n)) c.if-part.false
    ∙ page_last (level_place p.level p.block.len) (frame_count (frame_len p.level) p.block.len) p.from n c.requires.some
    c.requires.one) c.load_page.ensures.damaged
