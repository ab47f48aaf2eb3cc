-- The clips before the last are copied, and the last has its other blocks.
use Rattle.record_body.proofs.Common.{◌≡◌, ◌-◌, ◌++◌, ◌∷◌, [], List, length, take, ap, sym, ◌∙◌, arith, Clip}
use Rattle.record_body.proofs.Tails.{front_and_last}
use Rattle.record_body.proofs.tails_reading.with_last.Goals as goal

pub returns : goal.returns
returns c =
    let clips = c.args.clips.now in
    let last = c.index-clips-last.result in
    let all : c.loop-i.i ≡ length clips - 1 = omega (arith, c.loop-i-test.false, c.loop-i.auto.i-end) in
    c.in_ok-push-2.ensures.items
    ∙ ap (λ (k : Clip). c.loop-i.out.items ++ record { start = k.start; blocks = c.args.blocks } ∷ [])
    (sym c.index-clips-last.is)
    ∙ ap (λ (l : List Clip). l ++ record last { blocks = c.args.blocks } ∷ [])
    (c.loop-i.invariant ∙ ap (λ n. take n clips) all)
    ∙ front_and_last clips last c.args.blocks c.requires c.index-clips-last.is
