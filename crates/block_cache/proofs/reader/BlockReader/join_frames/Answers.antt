-- A fault of the file is one of the block, and what stands in the file of a block of the disk are its summaries.
use Rattle.block_cache.proofs.Common.{Ok, ap, refl, frame_len, stored_frames, take, drop, valid_result, ◌∙◌, ◌≡◌}
use Rattle.block_cache.proofs.Common.{bytes_of, Summary, frames_end, ◌+◌}
use Rattle.std.specs.Prelude.{fold}
use Rattle.std.proofs.lemmas.Result.{IfOk-weaker}
use Rattle.peak_summary.specs.Peaks.{frames_of, joined, nothing}
use Rattle.block_store.proofs.FrameLaws.{frames_result}
use Rattle.block_cache.proofs.{PageLaws.end_in_file, ReaderLaws.read_through}
use Rattle.block_cache.proofs.reader.BlockReader.join_frames.Goals as goal

pub returns-clause-reads : goal.returns-clause-reads
returns-clause-reads g c =
    read_through c.args.block (frames_end c.args.once c.args.level c.args.block (c.args.from + c.args.count)) _ _ _
    (end_in_file c.args.once c.args.level c.args.block c.args.from c.args.count c.requires.within)
    c.join_pages.ensures.kept c.join_pages.ensures.faults c.join_pages.ensures.cache c.join_pages.ensures.damaged

pub returns-clause-read : goal.returns-clause-read
returns-clause-read g c = λ xs told block len.
    let l = c.args.level in
    let files = g.S.Store.reads c.args.self.now.store in
    IfOk-weaker c.join_pages.result
    (λ (s : Summary). s ≡ fold joined nothing (stored_frames (bytes_of (files c.args.block.id)) l c.args.block.len
    c.args.from c.args.count))
    (λ (s : Summary). s ≡ fold joined nothing (take c.args.count (drop c.args.from (frames_of (frame_len l) xs))))
    (λ s is. is ∙ ap (fold joined nothing) (frames_result (Ok (tt {0})) files l c.args.block.id c.args.block.len
    c.args.from c.args.count xs _ block len c.requires.within refl)) (c.join_pages.ensures.sum told)

pub returns-clause-valid : goal.returns-clause-valid
returns-clause-valid g c = λ xs told block len.
    valid_result c.join_pages.result (g.S.Store.reads c.args.self.now.store) c.args.block.id c.args.block.len _ xs block
    len (end_in_file c.args.once c.args.level c.args.block c.args.from c.args.count c.requires.within)
    (c.join_pages.ensures.damaged told)
