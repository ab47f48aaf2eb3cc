-- The front that was known, and what was read after it.
use Rattle.envelope_view.proofs.Common.{◌≡◌, ◌+◌, ◌∙◌, ℕ, Some, length, min, sym, ap, arith, Files, BlockRef, part}
use Rattle.envelope_view.proofs.Common.{blocks, summary_of}
use Rattle.envelope_view.proofs.{BlockReads.block_also, BlockReads.block_err, BlockReads.block_ok, KeptLaws.part_in}
use Rattle.envelope_view.proofs.SumLaws.{part_joined}
use Rattle.envelope_view.proofs.sweep.summarize_block.Goals as goal

pub returns-in_err-back-clause-sum : goal.returns-in_err-back-clause-sum
returns-in_err-back-clause-sum g c = block_err _ c.from_residual.ensures.1 c.in_err-back.ensures.sum
    (part_in _ c.args.block c.args.from (min c.args.block.len (c.args.to + c.args.reach)) _ _
    c.front_of-front.ensures.rising (omega arith))

pub returns-clause-sum : goal.returns-clause-sum
returns-clause-sum g c =
    let files : Files = g.S.Store.reads c.args.reader.now.store in
    let front = c.front_of-front.result in
    let is = c.front_of-front.ensures in
    block_ok (block_also _ (λ told xs e len.
    let its : blocks files front.block.id ≡ Some xs = ap (λ (b : BlockRef). blocks files b.id) is.block ∙ e in
    let its_len : length xs ≡ front.block.len = len ∙ ap (λ (b : BlockRef). b.len) (sym is.block) in
    is.known files (c.requires.known told) xs its its_len ∙ ap (λ (k : ℕ). summary_of (part k front.to xs)) is.from)
    c.in_ok-back.ensures.sum)
    (part_in _ c.args.block c.args.from (min c.args.block.len (c.args.to + c.args.reach)) _ _ is.rising (omega arith))
    (λ xs of got. c.join.ensures.exact ∙ part_joined c.args.from front.to c.args.to xs front.summary c.in_ok-back.back
    of.fit of.few is.rising is.within got.0 got.1)
