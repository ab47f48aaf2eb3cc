-- A part of the page is joined.
use Rattle.block_cache.proofs.Common.{◌*◌, ◌/◌, ◌%◌, ◌∙◌, ◌≤◌, ℕ, List, ap, arith, bytes_of, common_steps, length, refl}
use Rattle.std.specs.Prelude.{fold}
use Rattle.peak_summary.specs.Peaks.{joined}
use Rattle.block_store.specs.Reads.{IsReadFault}
use Rattle.block_cache.proofs.PageLaws.{at_page_end, frame_part_read}
use Rattle.block_cache.proofs.frames.join_loaded.Goals as goal

pub returns-in-Err-clause-damaged : goal.returns-in-Err-clause-damaged
returns-in-Err-clause-damaged g c = λ told.
    let p = c.args.part in
    let bytes : List ℕ = bytes_of (g.S.Store.reads c.args.store.now p.block.id) in
    at_page_end (λ k. IsReadFault p.block.id p.block.len k bytes c.in-Err.fault) p.once p.level p.block p.from
    c.args.count (c.in-Err.ensures.damaged told) c.requires.kept c.requires.some c.requires.one c.requires.within
    (grind (arith, common_steps))

pub returns-clause-sum : goal.returns-clause-sum
returns-clause-sum g c = λ told.
    let files = g.S.Store.reads c.args.store.now in
    let p = c.args.part in
    c.join_run.ensures ∙ ap (fold joined c.args.before) (frame_part_read files files p.level p.block.id p.block.len
    (256 * (p.from / 256)) p.from (p.from % 256) c.args.count _ _ _ refl (omega arith)
    (grind (arith, common_steps)) (c.in_default.ensures.frames told) refl)

pub returns-clause-whole : goal.returns-clause-whole
returns-clause-whole g c = λ told.
    let p = c.args.part in
    let bytes : List ℕ = bytes_of (g.S.Store.reads c.args.store.now p.block.id) in
    at_page_end (λ k. k ≤ length bytes) p.once p.level p.block p.from c.args.count (c.in_default.ensures.whole told)
    c.requires.kept c.requires.some c.requires.one c.requires.within (grind (arith, common_steps))
