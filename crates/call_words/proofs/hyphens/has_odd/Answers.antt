use Rattle.std.proofs.Common.{◌≡◌, ◌∙◌, refl, sym, ap, true, false, string_bytes, drop_of_length-le}
use Rattle.call_words.specs.Texts.{is_odd}
use Rattle.call_words.proofs.OddLemmas.{odd_among, odd_here}
use Rattle.call_words.proofs.hyphens.has_odd.Goals as goal

pub loop-word-init : goal.loop-word-init
loop-word-init c = refl

pub returns-then-is_odd : goal.returns-then-is_odd
returns-then-is_odd c =
    let odd : is_odd (string_bytes c.word-item.result) ≡ true =
    ap is_odd (sym c.as_bytes.ensures.value) ∙ sym c.is_odd.ensures ∙ c.if-is_odd.true in
    sym (c.loop-word.invariant ∙ odd_here _ _ _ c.loop-word-test.true c.word-item.is ∙ rw odd refl)

pub loop-word-preserved : goal.loop-word-preserved
loop-word-preserved c =
    let plain : is_odd (string_bytes c.word-item.result) ≡ false =
    ap is_odd (sym c.as_bytes.ensures.value) ∙ sym c.is_odd.ensures ∙ c.if-is_odd.false in
    c.loop-word.invariant ∙ odd_here _ _ _ c.loop-word-test.true c.word-item.is ∙ rw plain refl

pub returns : goal.returns
returns c = sym (c.loop-word.invariant ∙ ap odd_among (drop_of_length-le c.args.words.now c.loop-word-test.false))
