-- One track more.
use Rattle.editor_core.proofs.Common.{◌≡◌, refl, sym, ap, ◌∙◌, subst, ℕ, ◌+◌, ◌-◌, ◌≤◌, ◌<◌, List, [], ◌∷◌, ◌++◌}
use Rattle.editor_core.proofs.Common.{length, map, take, drop, append_assoc, arith, rules, length-map, length-take}
use Rattle.editor_core.proofs.Common.{into_iter_items, Track, AllBelow, drop_some, take_some, HasNumbers, run_of}
use Rattle.editor_core.proofs.Common.{laid_from, laid_or}
use Rattle.std.proofs.{lemmas.List.map-append, lemmas.Option.same_Some}
use Rattle.project_state.proofs.Points.{below_taken}
use Rattle.layout_uses.proofs.Draws.{numbers_none}
use Rattle.editor_tracks.specs.{RunEdits.next_number}
use Rattle.editor_tracks.proofs.RunLayouts.{next_most, numbers_laid, place_among}
use Rattle.editor_core.proofs.laying.planned_run.Goals as goal

abbrev ids : List Track → List ℕ
ids ts = map (λ (t : Track). t.id) ts

abbrev Below : ℕ → List ℕ → Type 0
Below n [] = Unit {0}
Below n (id ∷ more) = (id < n) × Below n more

to_ids : (n : ℕ) (ts : List Track) → AllBelow n ts → Below n (ids ts)
to_ids n [] h = tt
to_ids n (t ∷ ts) h = (h.0, to_ids n ts h.1)

from_ids : (n : ℕ) (ts : List Track) → Below n (ids ts) → AllBelow n ts
from_ids n [] h = tt
from_ids n (t ∷ ts) h = (h.0, from_ids n ts h.1)

-- as many tracks as ids
same_many : (xs ys : List Track) → ids xs ≡ ids ys → length xs ≡ length ys
same_many xs ys same =
    omega (
      arith,
      length-map xs (λ (t : Track). t.id),
      length-map ys (λ (t : Track). t.id),
      ap (λ (z : List ℕ). length z) same,
    )

-- ---- before the first track

pub loop-i-init : goal.loop-i-init
loop-i-init c =
    let ts = c.args.project.now in
    let none = c.new-point.ensures in
    record {
      len = search rules;
      ids = ap ids none;
      tracks = search rules;
      makes = search rules;
      layouts = search rules;
      count = search rules;
      fits = search rules;
      clip = refl;
      numbers = subst (λ (z : List Track). HasNumbers ts c.args.next.layout z c.args.next.layout) (sym none)
          (numbers_none ts c.args.next.layout);
      least = omega arith;
      most = omega arith;
    }

-- ---- one more

pub number_after-number-requires : goal.number_after-number-requires
number_after-number-requires c = omega (
  arith,
  c.loop-i.invariant.most,
  c.requires.numbers,
  c.len-i-end.ensures.few,
  c.loop-i-test.true,
)

pub add_laid-requires-clause-above : goal.add_laid-requires-clause-above
add_laid-requires-clause-above c = λ t at.
    let ts = c.args.project.now in
    let i = c.loop-i.i in
    from_ids t.id c.loop-i.point
    (subst (Below t.id) (sym c.loop-i.invariant.ids)
    (to_ids t.id (take i ts) (below_taken 1 i ts t c.requires.rising at).0))

pub add_laid-requires-clause-same : goal.add_laid-requires-clause-same
add_laid-requires-clause-same c = λ t at.
    let old = c.track_at.result.now in
    let it : old ≡ t = same_Some old t (sym c.track_at.ensures ∙ at) in
    subst (λ (x : Track). (laid_or x c.in_ok-laid.laid).id ≡ x.id) it c.in_ok-laid.ensures.lays.id_is

pub add_laid-requires-clause-few : goal.add_laid-requires-clause-few
add_laid-requires-clause-few c =
    let ts = c.args.project.now in
    let i = c.loop-i.i in
    omega (
      arith,
      same_many c.loop-i.point (take i ts) c.loop-i.invariant.ids,
      length-take i ts,
      c.len-i-end.ensures.few,
      c.loop-i-test.true,
    )

pub loop-i-preserved : goal.loop-i-preserved
loop-i-preserved c =
    let ts = c.args.project.now in
    let id = c.args.id in
    let i = c.loop-i.i in
    let point = c.loop-i.point in
    let old = c.track_at.result.now in
    let laid = c.in_ok-laid.laid in
    let new = laid_or old laid in
    let lays = c.in_ok-laid.ensures.lays in
    let was = into_iter_items c.loop-i.left in
    let left = into_iter_items c.next_track.new.plans in
    let rest = drop (i + 1) ts in
    let more = c.in_ok-add_laid.ensures old c.track_at.ensures in
    let number = c.number_after-number.ensures in
    let at : drop i ts ≡ old ∷ rest = drop_some ts i old c.track_at.ensures in
    let numbers : HasNumbers ts c.args.next.layout c.add_laid.new.point c.number_after-number.result =
    subst (λ (n : ℕ). HasNumbers ts c.args.next.layout c.add_laid.new.point n) (sym number)
    (subst (λ (z : List Track). HasNumbers ts c.args.next.layout z (next_number c.loop-i.number laid)) (sym more)
    (numbers_laid ts c.args.next.layout point c.loop-i.number c.loop-i.invariant.numbers old
    (place_among i ts old c.track_at.ensures) laid c.in_ok-laid.ensures.number)) in
    record {
      len = c.in_ok-laid.ensures.len;
      ids = ap ids more ∙ map-append (λ (t : Track). t.id) point (new ∷ [])
          ∙ ap (λ (z : List ℕ). z ++ new.id ∷ []) c.loop-i.invariant.ids
          ∙ ap (λ (n : ℕ). ids (take i ts) ++ n ∷ []) lays.id_is
          ∙ sym (ap ids (take_some ts i old c.track_at.ensures)
          ∙ map-append (λ (t : Track). t.id) (take i ts) (old ∷ []));
      tracks = c.loop-i.invariant.tracks ∙ ap (λ (z : List Track). point ++ laid_from id was c.loop-i.number z) at
          ∙ ap (λ (z : List Track). point ++ z) (lays.track rest)
          ∙ ap (λ (n : ℕ). point ++ (new ∷ laid_from id left n rest)) (sym number)
          ∙ sym (ap (λ (z : List Track). z ++ laid_from id left c.number_after-number.result rest) more
          ∙ append_assoc point (new ∷ []) (laid_from id left c.number_after-number.result rest));
      makes = lays.makes ∙ c.loop-i.invariant.makes;
      layouts = λ h. c.loop-i.invariant.layouts (lays.layouts h);
      count = omega (arith, c.loop-i.invariant.count, lays.count, number);
      fits = lays.fits rest (subst (λ (z : List Track). length was ≤ length (run_of id z)) at c.loop-i.invariant.fits);
      clip = c.loop-i.invariant.clip;
      numbers = numbers;
      least = numbers.least;
      most = omega (arith, c.loop-i.invariant.most, number, next_most c.loop-i.number laid);
    }

pub returns-clause-layouts : goal.returns-clause-layouts
returns-clause-layouts c =
    let same : c.loop-i.number ≡ c.args.next.layout + (c.loop-i.number - c.args.next.layout) =
    omega (arith, c.loop-i.invariant.least) in
    subst (λ (n : ℕ). HasNumbers c.args.project.now c.args.next.layout c.loop-i.point n) same c.loop-i.invariant.numbers
