-- Copied references stand at the end.
use Rattle.std.proofs.Common.{◌≡◌, ℕ, ◌-◌, ◌++◌, List, length, drop, ap, ap₂, subst, ◌∙◌, arith, length-drop}
use Rattle.std.proofs.Common.{IfOk}
use Rattle.std.proofs.lemmas.List.{length-take}
use Rattle.pcm_base.specs.{declared.block.BlockRef.BlockRef, Blocks.blocks_len}
use Rattle.block_sequence.specs.Rows.{flat, from_to, spliced}
use Rattle.block_sequence.proofs.Appended.{spliced_end}
use Rattle.block_sequence.proofs.row_appends.with_copied.Goals as goal

pub spliced_rows-requires-clause-middle : goal.spliced_rows-requires-clause-middle
spliced_rows-requires-clause-middle c =
    let from = c.args.from in
    let to = c.args.to in
    let all = flat c.args.others.now in
    let part = from_to from to all in
    let copied = c.as_slice.ensures.value ∙ c.in_ok-append_blocks.ensures
    ∙ ap (λ (bs : List BlockRef). bs ++ part) c.new-blocks.ensures.items in
    omega (arith, ap length copied, length-take (to - from) (drop from all), length-drop from all, c.requires.others)

pub spliced_rows-requires-clause-few : goal.spliced_rows-requires-clause-few
spliced_rows-requires-clause-few c =
    let rows = flat c.args.rows.now in
    let part = from_to c.args.from c.args.to (flat c.args.others.now) in
    let copied = c.as_slice.ensures.value ∙ c.in_ok-append_blocks.ensures
    ∙ ap (λ (bs : List BlockRef). bs ++ part) c.new-blocks.ensures.items in
    let same = ap₂ (λ (n : ℕ) (bs : List BlockRef). spliced n n bs rows) c.count_blocks-end.ensures copied
    ∙ spliced_end part rows in
    omega (arith, ap blocks_len same, c.requires.few)

pub returns : goal.returns
returns c =
    let rows = flat c.args.rows.now in
    let part = from_to c.args.from c.args.to (flat c.args.others.now) in
    let copied = c.as_slice.ensures.value ∙ c.in_ok-append_blocks.ensures
    ∙ ap (λ (bs : List BlockRef). bs ++ part) c.new-blocks.ensures.items in
    let same = ap₂ (λ (n : ℕ) (bs : List BlockRef). spliced n n bs rows) c.count_blocks-end.ensures copied
    ∙ spliced_end part rows in
    let P : List BlockRef → Type 0 = λ bs. IfOk c.spliced_rows.result (λ v. flat v.items ≡ bs) in
    subst P same c.spliced_rows.ensures
