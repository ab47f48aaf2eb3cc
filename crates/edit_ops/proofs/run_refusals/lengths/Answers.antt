-- The goals of `lengths` that the search leaves open.
use Rattle.edit_ops.proofs.Common.{◌≡◌, ℕ, ◌+◌, ◌<◌, List, ◌∷◌, length, get_or, drop, sym, ap, ap₂, ◌∙◌, arith}
use Rattle.edit_ops.proofs.Common.{drop_more, length_limit, placed_length, Item, Clip, end_of, strip_len, layouts}
use Rattle.edit_ops.proofs.Common.{lengths_of}
use Rattle.pcm_base.proofs.Exits.{exit_err}
use Rattle.edit_ops.proofs.RunLists.{sum_at, layouts_at, layouts_left, length-layouts, limit_next, limit_first}
use denote.Ref.{Bor}
use Rattle.edit_ops.proofs.run_refusals.lengths.Goals as goal

pub length-len-requires : goal.length-len-requires
length-len-requires c =
    let run = c.args.run.now in
    let t = c.index-run-i.result in
    let s = sum_at c.args.at c.args.clip.now (layouts run) c.loop-i.i c.index-clip-i.result t.now (omega arith)
    (omega (arith, length-layouts run)) c.requires.sums in
    omega (
      arith,
      s,
      ap strip_len c.index-clip-i.is,
      ap (end_of 0) (layouts_at run c.loop-i.i t (omega arith) c.index-run-i.is),
      c.len.ensures,
      c.len-in-loop-i.ensures.value,
    )

-- the length of this track, and those of the tracks after it
lengths_here : (f : ℕ → ℕ → ℕ) (clip : List (List Item)) (run : List (Bor (List Clip))) (i n : ℕ) (s : List Item)
    (t : Bor (List Clip))
    → i < length clip → i < length run → s ≡ get_or clip i s → t ≡ get_or run i t → n ≡ f (strip_len s) (end_of 0 t.now)
    → lengths_of f (drop i clip) (drop i (layouts run))
    ≡ n ∷ lengths_of f (drop (i + 1) clip) (drop (i + 1) (layouts run))
lengths_here f clip run i n s t lt within is same len =
    ap₂ (lengths_of f) (drop_more clip i s lt ∙ ap (λ (x : List Item). x ∷ drop (i + 1) clip) (sym is))
    (layouts_left run i t within same)
    ∙ ap (λ (k : ℕ). k ∷ lengths_of f (drop (i + 1) clip) (drop (i + 1) (layouts run))) (sym len)

pub returns-in_err-length : goal.returns-in_err-length
returns-in_err-length c =
    let f = placed_length c.args.placing c.args.at in
    let left = lengths_of f (drop (c.loop-i.i + 1) c.args.clip.now) (drop (c.loop-i.i + 1) (layouts c.args.run.now)) in
    let e = lengths_here f c.args.clip.now c.args.run.now c.loop-i.i c.length-len.result _ _ c.loop-i-test.true
    (omega (arith, c.requires.wide, c.loop-i-test.true)) c.index-clip-i.is c.index-run-i.is
    (c.length-len.ensures ∙ ap₂ f c.len.ensures c.len-in-loop-i.ensures.value) in
    rw (exit_err c.from_residual.result c.from_residual.ensures.1) (sym c.loop-i.invariant ∙ ap length_limit e
    ∙ limit_first c.length-len.result left c.in_err-length.field-0.0 c.in_err-length.ensures)

pub loop-i-preserved : goal.loop-i-preserved
loop-i-preserved c =
    let f = placed_length c.args.placing c.args.at in
    let left = lengths_of f (drop (c.loop-i.i + 1) c.args.clip.now) (drop (c.loop-i.i + 1) (layouts c.args.run.now)) in
    let e = lengths_here f c.args.clip.now c.args.run.now c.loop-i.i c.length-len.result _ _ c.loop-i-test.true
    (omega (arith, c.requires.wide, c.loop-i-test.true)) c.index-clip-i.is c.index-run-i.is
    (c.length-len.ensures ∙ ap₂ f c.len.ensures c.len-in-loop-i.ensures.value) in
    sym (limit_next c.length-len.result left c.in_ok-length.ensures) ∙ sym (ap length_limit e) ∙ c.loop-i.invariant
