-- Of a page that is kept the frames are joined, and otherwise it is read, or the frames alone.
use Rattle.block_cache.proofs.Common.{◌%◌, ◌∙◌, ap, drop, kept_none, refl, take}
use Rattle.std.specs.Prelude.{fold}
use Rattle.peak_summary.specs.Peaks.{joined}
use Rattle.block_cache.proofs.CacheLaws.{keeps_same, keeps_turn, right_same}
use Rattle.block_cache.proofs.PageLaws.{kept_frames}
use Rattle.block_cache.proofs.frames.join_page.Goals as goal

pub returns-in-Some-clause-cache : goal.returns-in-Some-clause-cache
returns-in-Some-clause-cache g c = keeps_same c.join_frames.ensures.same

pub returns-in-Some-clause-sum : goal.returns-in-Some-clause-sum
returns-in-Some-clause-sum g c = λ told.
    let p = c.args.part in
    let on = c.in-Some.ensures.there in
    on.3 ∙ ap (fold joined c.args.before) (kept_frames _ c.args.cache.now p.once p.level p.block p.from c.args.count _
    (take c.args.count (drop (p.from % 256) on.0)) (c.requires.cached told) c.frame_key-key.ensures c.requires.some
    c.requires.one c.requires.within (on.0, on.1, on.2, refl)).frames

pub returns-in-Some-clause-header : goal.returns-in-Some-clause-header
returns-in-Some-clause-header g c = λ told.
    let p = c.args.part in
    let on = c.in-Some.ensures.there in
    (kept_frames _ c.args.cache.now p.once p.level p.block p.from c.args.count _
    (take c.args.count (drop (p.from % 256) on.0)) (c.requires.cached told) c.frame_key-key.ensures c.requires.some
    c.requires.one c.requires.within (on.0, on.1, on.2, refl)).header

pub returns-in-Some-clause-whole : goal.returns-in-Some-clause-whole
returns-in-Some-clause-whole g c = λ told.
    let p = c.args.part in
    let on = c.in-Some.ensures.there in
    (kept_frames _ c.args.cache.now p.once p.level p.block p.from c.args.count _
    (take c.args.count (drop (p.from % 256) on.0)) (c.requires.cached told) c.frame_key-key.ensures c.requires.some
    c.requires.one c.requires.within (on.0, on.1, on.2, refl)).whole

pub returns-in-Some-clause-kept : goal.returns-in-Some-clause-kept
returns-in-Some-clause-kept g c = kept_none _ (g.met.S.Store.may_fewer _)

pub join_missed-requires-clause-cached : goal.join_missed-requires-clause-cached
join_missed-requires-clause-cached g c = λ told. right_same _ _ _ c.join_frames.ensures.same (c.requires.cached told)

pub join_alone-requires-clause-cached : goal.join_alone-requires-clause-cached
join_alone-requires-clause-cached g c = λ told. right_same _ _ _ c.join_frames.ensures.same (c.requires.cached told)

pub returns-then-part-clause-cache : goal.returns-then-part-clause-cache
returns-then-part-clause-cache g c = keeps_turn _ _ _ c.args.cache.now c.join_frames.new.self c.join_alone.new.cache
    (keeps_same c.join_frames.ensures.same) c.join_alone.ensures.cache

pub returns-clause-cache : goal.returns-clause-cache
returns-clause-cache g c = keeps_turn _ _ _ c.args.cache.now c.join_frames.new.self c.join_missed.new.cache
    (keeps_same c.join_frames.ensures.same) c.join_missed.ensures.cache
