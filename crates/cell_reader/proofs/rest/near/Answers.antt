-- The layout is cut before the clip that is near.
use Rattle.cell_reader.proofs.Common.{◌≡◌, ◌+◌, ◌-◌, ◌≤◌, ◌++◌, ◌∷◌, List, [], length, take, drop, min, arith, refl, ap}
use Rattle.cell_reader.proofs.Common.{sym, subst, ◌∙◌, nil_from_length, length-take, Clip, IsLayout, AreClips, clip_end}
use Rattle.cell_reader.proofs.Common.{end_of, end_within, IsRestOf}
use Rattle.cell_reader.proofs.NearLaws.{clips_back, cut_before, end_back, near_late, near_of}
use Rattle.cell_reader.proofs.rest.near.Goals as goal

pub overflow_add-result : goal.overflow_add-result
overflow_add-result c =
    let cs : List Clip = c.as_slice-clips.result.now in
    let first = c.saturating_sub-first.result in
    let ds : List Clip = take (length cs - first) (drop first cs) in
    let more : List Clip = take (length ds - 1) (drop 1 ds) in
    let front : List Clip = take first cs in
    let x : Clip = c.clip-item.result in
    let whole : front ++ x ∷ more ≡ cs = cut_before cs first x c.clip-item.is c.in-len1-up.len_at_least in
    let L : List Clip → Type 0 = IsLayout in
    let is : IsLayout (front ++ x ∷ more) =
    subst L (sym (whole ∙ c.as_slice-clips.ensures.value)) c.as_slice-clips.ensures.apart in
    let within = end_within (end_of 0 front) x more (clips_back 0 front (x ∷ more) is.apart) in
    omega (arith, within, end_back 0 front (x ∷ more), is.few, c.len.ensures.value)

pub returns-in-empty : goal.returns-in-empty
returns-in-empty c =
    let cs : List Clip = c.as_slice-clips.result.now in
    let first = c.saturating_sub-first.result in
    let none : cs ≡ [] =
    nil_from_length cs (omega (
      arith,
      length-take (length cs - first) (drop first cs),
      c.in-empty.len_below,
      c.saturating_sub-first.ensures,
      c.started.ensures.bound,
    )) in
    let P : List Clip → Type 0 = λ ds. IsRestOf c.args.from ds c.no_rest.result in
    subst P (sym (sym c.as_slice-clips.ensures.value ∙ none)) (c.no_rest.ensures c.args.from)

pub returns-in-len1-up : goal.returns-in-len1-up
returns-in-len1-up c =
    let cs : List Clip = c.as_slice-clips.result.now in
    let first = c.saturating_sub-first.result in
    let ds : List Clip = take (length cs - first) (drop first cs) in
    let more : List Clip = take (length ds - 1) (drop 1 ds) in
    let front : List Clip = take first cs in
    let x : Clip = c.clip-item.result in
    let whole : front ++ x ∷ more ≡ cs = cut_before cs first x c.clip-item.is c.in-len1-up.len_at_least in
    let same : front ++ x ∷ more ≡ c.args.layout.now = whole ∙ c.as_slice-clips.ensures.value in
    let A : List Clip → Type 0 = AreClips 0 in
    let are : AreClips 0 cs = subst A (sym c.as_slice-clips.ensures.value) c.as_slice-clips.ensures.apart.apart in
    let late : end_of 0 front ≤ min c.args.from x.start =
    near_late c.args.from c.started.result first cs more x are whole c.saturating_sub-first.ensures
    c.started.ensures.bound c.started.ensures.started in
    let at : end_of 0 front ≤ c.min.result = omega (arith, late, c.min.ensures) in
    let passed : c.min.result ≤ c.args.from = omega (arith, c.min.ensures) in
    let before : c.min.result ≤ x.start = omega (arith, c.min.ensures) in
    let end : x.start + c.len.result ≡ clip_end x = ap (λ n. x.start + n) c.len.ensures.value in
    let row : x.start ≡ x.start + 0 = omega arith in
    near_of c.args.from front more x _ at passed before refl end c.rows.ensures.value refl row c.args.layout.now same
    c.as_slice-clips.ensures.apart c.requires.named
