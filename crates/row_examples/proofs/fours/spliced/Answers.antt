-- The list that passed the test is the sequence that is made.
use Rattle.std.proofs.Common.{◌≡◌, ◌≤◌, ◌++◌, length, subst, ap, ◌∙◌, arith, List, ℕ}
use Rattle.pcm_base.specs.declared.block.BlockRef.{BlockRef}
use Rattle.block_sequence.specs.Rows.{from_to, spliced}
use Rattle.row_examples.specs.Fours.{AreFours}
use Rattle.row_examples.proofs.HalfFours.{half_full, none_empty, few_fours, spliced_of}
use Rattle.row_examples.proofs.fours.spliced.Goals as goal

-- what was put together, in three steps
all_of : (from to count : ℕ) (old middle one two three all : List BlockRef) → length old ≤ count
    → one ≡ from_to 0 from old → two ≡ one ++ middle → three ≡ two ++ from_to to count old → all ≡ three
    → all ≡ spliced from to middle old
all_of from to count old middle one two three all few a b e is =
    is ∙ e ∙ ap (λ (bs : List BlockRef). bs ++ from_to to count old) (b ∙ ap (λ (bs : List BlockRef). bs ++ middle) a)
    ∙ spliced_of from to count old middle few

pub splice-requires-clause-full : goal.splice-requires-clause-full
splice-requires-clause-full c =
    let all = all_of c.args.from c.args.to c.count-2.result c.args.old.now c.args.middle.now _ _ _ _
    (omega (arith, c.count-2.ensures.value)) (c.in_ok-append_to.ensures ∙ ap (λ (bs : List BlockRef). bs
    ++ from_to 0 c.args.from c.args.old.now) c.new-all.ensures.items) c.in_ok-extend_from_slice.ensures.items
    c.in_ok-append_to-2.ensures c.as_slice.ensures.value in
    half_full _ (subst AreFours all (c.is_fit.ensures.fours c.if-not-is_fit.false))

pub splice-requires-clause-none_empty : goal.splice-requires-clause-none_empty
splice-requires-clause-none_empty c =
    let all = all_of c.args.from c.args.to c.count-2.result c.args.old.now c.args.middle.now _ _ _ _
    (omega (arith, c.count-2.ensures.value)) (c.in_ok-append_to.ensures ∙ ap (λ (bs : List BlockRef). bs
    ++ from_to 0 c.args.from c.args.old.now) c.new-all.ensures.items) c.in_ok-extend_from_slice.ensures.items
    c.in_ok-append_to-2.ensures c.as_slice.ensures.value in
    none_empty _ (subst AreFours all (c.is_fit.ensures.fours c.if-not-is_fit.false))

pub splice-requires-clause-few : goal.splice-requires-clause-few
splice-requires-clause-few c =
    let all = all_of c.args.from c.args.to c.count-2.result c.args.old.now c.args.middle.now _ _ _ _
    (omega (arith, c.count-2.ensures.value)) (c.in_ok-append_to.ensures ∙ ap (λ (bs : List BlockRef). bs
    ++ from_to 0 c.args.from c.args.old.now) c.new-all.ensures.items) c.in_ok-extend_from_slice.ensures.items
    c.in_ok-append_to-2.ensures c.as_slice.ensures.value in
    let is = c.if-not-is_fit.false in
    let few = c.is_fit.ensures.few is in
    few_fours _ (subst AreFours all (c.is_fit.ensures.fours is))
    (omega (arith, few, ap (λ (bs : List BlockRef). length bs) all))
