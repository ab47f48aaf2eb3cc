-- The page is joined where it was kept, and otherwise it is read alone.
use Rattle.block_cache.proofs.Common.{◌%◌, ◌+◌, ◌∙◌, ◌≡◌, ◌≤◌, ap, bytes_of, drop, kept_turn, length, refl, subst}
use Rattle.block_cache.proofs.Common.{take, tells_on, Files, HasHeader, Summary, frames_end, stored_frames}
use Rattle.std.specs.Prelude.{fold, IfErr, IfOk, OnOk}
use Rattle.peak_summary.specs.Peaks.{joined}
use Rattle.block_store.proofs.FaultLaws.{fault_on}
use Rattle.block_store.specs.Reads.{IsReadFault}
use Rattle.block_cache.proofs.CacheLaws.{cached_on, keeps_same, keeps_then, keeps_turn, right_same}
use Rattle.block_cache.proofs.PageLaws.{end_high, kept_frames}
use Rattle.block_cache.proofs.frames.join_ahead.Goals as goal

pub returns-in-Err-clause-damaged : goal.returns-in-Err-clause-damaged
returns-in-Err-clause-damaged g c = λ told.
    let p = c.args.part in
    fault_on p.block.id p.block.len 16 (frames_end p.once p.level p.block (p.from + c.args.count))
    (bytes_of (g.S.Store.reads c.args.store.now p.block.id)) c.in-Err.fault
    (end_high p.once p.level p.block (p.from + c.args.count)) (c.in-Err.ensures.damaged told)

pub returns-in-Some-clause-cache : goal.returns-in-Some-clause-cache
returns-in-Some-clause-cache g c = keeps_turn _ _ _ c.args.cache.now c.load_ahead.new.cache c.join_frames.new.self
    c.load_ahead.ensures.cache (keeps_same c.join_frames.ensures.same)

pub returns-in-Some-clause-sum : goal.returns-in-Some-clause-sum
returns-in-Some-clause-sum g c = λ told.
    let p = c.args.part in
    let on = c.in-Some.ensures.there in
    on.3 ∙ ap (fold joined c.args.before) (kept_frames _ c.load_ahead.new.cache p.once p.level p.block p.from
    c.args.count _ (take c.args.count (drop (p.from % 256) on.0))
    (c.load_ahead.ensures.cache.right told (c.requires.cached told))
    c.frame_key-key.ensures c.requires.some c.requires.one c.requires.within (on.0, on.1, on.2, refl)).frames

pub returns-in-Some-clause-header : goal.returns-in-Some-clause-header
returns-in-Some-clause-header g c = λ told.
    let p = c.args.part in
    let on = c.in-Some.ensures.there in
    (kept_frames _ c.load_ahead.new.cache p.once p.level p.block p.from c.args.count _
    (take c.args.count (drop (p.from % 256) on.0)) (c.load_ahead.ensures.cache.right told (c.requires.cached told))
    c.frame_key-key.ensures c.requires.some c.requires.one c.requires.within (on.0, on.1, on.2, refl)).header

pub returns-in-Some-clause-whole : goal.returns-in-Some-clause-whole
returns-in-Some-clause-whole g c = λ told.
    let p = c.args.part in
    let on = c.in-Some.ensures.there in
    (kept_frames _ c.load_ahead.new.cache p.once p.level p.block p.from c.args.count _
    (take c.args.count (drop (p.from % 256) on.0)) (c.load_ahead.ensures.cache.right told (c.requires.cached told))
    c.frame_key-key.ensures c.requires.some c.requires.one c.requires.within (on.0, on.1, on.2, refl)).whole

pub join_loaded-requires-clause-cached : goal.join_loaded-requires-clause-cached
join_loaded-requires-clause-cached g c = λ still. right_same _ _ _ c.join_frames.ensures.same
    (cached_on c.args.store.now c.load_ahead.new.store _ _ _ c.load_ahead.ensures.kept c.load_ahead.ensures.cache
    c.requires.cached still)

pub returns-clause-cache : goal.returns-clause-cache
returns-clause-cache g c = keeps_then c.args.store.now c.load_ahead.new.store _ c.args.cache.now c.join_frames.new.self
    c.join_loaded.new.cache c.load_ahead.ensures.kept
    (keeps_turn _ _ _ c.args.cache.now c.load_ahead.new.cache c.join_frames.new.self c.load_ahead.ensures.cache
    (keeps_same c.join_frames.ensures.same)) c.join_loaded.ensures.cache

pub returns-clause-sum : goal.returns-clause-sum
returns-clause-sum g c = λ told.
    let p = c.args.part in
    subst (λ (f : Files). IfOk c.join_loaded.result (λ (s : Summary). s ≡ fold joined c.args.before
    (stored_frames (bytes_of (f p.block.id)) p.level p.block.len p.from c.args.count)))
    c.load_ahead.ensures.kept.same_reads (c.join_loaded.ensures.sum (tells_on c.load_ahead.ensures.kept told))

pub returns-clause-header : goal.returns-clause-header
returns-clause-header g c = λ told.
    let p = c.args.part in
    subst (λ (f : Files). OnOk c.join_loaded.result (HasHeader p.block.id p.block.len (bytes_of (f p.block.id))))
    c.load_ahead.ensures.kept.same_reads (c.join_loaded.ensures.header (tells_on c.load_ahead.ensures.kept told))

pub returns-clause-whole : goal.returns-clause-whole
returns-clause-whole g c = λ told.
    let p = c.args.part in
    subst (λ (f : Files). OnOk c.join_loaded.result (frames_end p.once p.level p.block (p.from + c.args.count)
    ≤ length (bytes_of (f p.block.id))))
    c.load_ahead.ensures.kept.same_reads (c.join_loaded.ensures.whole (tells_on c.load_ahead.ensures.kept told))

pub returns-clause-damaged : goal.returns-clause-damaged
returns-clause-damaged g c = λ told.
    let p = c.args.part in
    subst (λ (f : Files). IfErr c.join_loaded.result (λ e. IsReadFault p.block.id p.block.len
    (frames_end p.once p.level p.block (p.from + c.args.count)) (bytes_of (f p.block.id)) e))
    c.load_ahead.ensures.kept.same_reads (c.join_loaded.ensures.damaged (tells_on c.load_ahead.ensures.kept told))

pub returns-clause-kept : goal.returns-clause-kept
returns-clause-kept g c = kept_turn c.load_ahead.ensures.kept c.join_loaded.ensures.kept
