-- One clip more is passed.
use Rattle.cell_reader.proofs.Common.{◌≡◌, ◌+◌, ◌-◌, ◌∷◌, List, length, take, drop, refl, ap, subst, ◌∙◌, sym, arith}
use Rattle.cell_reader.proofs.Common.{length-drop, length-take, Clip, AreClips, end_of, end_within, first_of}
use Rattle.cell_reader.proofs.RestLaws.{clip_rest, clip_passed}
use Rattle.cell_reader.proofs.rest.pass_clips.Goals as goal

pub clips-init : goal.clips-init
clips-init c = record { rest = c.requires.rest; of = λ cs is. is }

pub overflow_add-left : goal.overflow_add-left
overflow_add-left c =
    let r = c.clips.left in
    let x : Clip = c.clip-item.result in
    let more : List Clip = take (length r.clips.now - 1) (drop 1 r.clips.now) in
    let same : r.clips.now ≡ x ∷ more =
    first_of r.clips.now x c.in-len1-up.len_at_least ∙ ap (λ (y : Clip). y ∷ more) (sym c.clip-item.is) in
    let A : List Clip → Type 0 = AreClips r.end in
    let within = end_within r.end x more (subst A same c.clips.invariant.rest.apart) in
    omega (arith, within, ap (end_of r.end) same, c.clips.invariant.rest.few, c.len.ensures.value)

pub clips-preserved : goal.clips-preserved
clips-preserved c =
    let r = c.clips.left in
    let x : Clip = c.clip-item.result in
    let more : List Clip = take (length r.clips.now - 1) (drop 1 r.clips.now) in
    let same : r.clips.now ≡ x ∷ more =
    first_of r.clips.now x c.in-len1-up.len_at_least ∙ ap (λ (y : Clip). y ∷ more) (sym c.clip-item.is) in
    let end : x.start + c.len.result ≡ x.start + _ = ap (λ n. x.start + n) c.len.ensures.value in
    let row : x.start ≡ x.start + 0 = omega arith in
    record {
      rest = clip_rest r _ x same refl refl end c.rows.ensures.value row c.clips.invariant.rest;
      of = λ cs is. clip_passed r _ x same refl refl end c.rows.ensures.value row c.clips.invariant.rest c.args.from cs
          c.clips-test.true (c.clips.invariant.of cs is);
    }

pub clips-smaller : goal.clips-smaller
clips-smaller c = omega (
  arith,
  length-take (length c.clips.left.clips.now - 1) (drop 1 c.clips.left.clips.now),
  length-drop 1 c.clips.left.clips.now,
  c.in-len1-up.len_at_least,
)
