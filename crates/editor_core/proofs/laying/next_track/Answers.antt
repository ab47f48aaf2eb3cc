-- Where no plan is left a track stays.
use Rattle.editor_core.proofs.Common.{◌≡◌, ◌∙◌, refl, sym, ap, subst, ◌+◌, List, [], ◌∷◌, ◌++◌, length, Option, arith}
use Rattle.editor_core.proofs.Common.{into_iter_items, NewBlock, Plan, Track, AreLayouts, laid_from, made_by}
use Rattle.std.proofs.lemmas.List.{nil_from_length}
use Rattle.std.specs.{Vec.Iter.into_iter_steps, Option.option_to_list}
use Rattle.editor_tracks.proofs.RunLayouts.{laid_stays}
use Rattle.editor_core.proofs.laying.next_track.Goals as goal

pub returns-in-None-clause-lays : goal.returns-in-None-clause-lays
returns-in-None-clause-lays c =
    let was : List Plan = into_iter_items c.args.plans.now in
    let left : List Plan = into_iter_items c.next.new.self in
    let makes : List NewBlock = c.args.makes.now.items in
    let t : Track = c.args.track.now in
    let ends = subst (λ (o : Option Plan). into_iter_steps c.args.plans.now o c.next.new.self) c.in-None.is
    c.next.ensures.cases in
    let none : was ≡ [] = nil_from_length was (sym c.requires ∙ ends.0) in
    let same : was ≡ left =
    c.next.ensures.items ∙ ap (λ (o : Option Plan). option_to_list o ++ left) c.in-None.is in
    record {
      id_is = refl;
      track = λ ts.
          ap (λ (ps : List Plan). laid_from c.args.id ps c.args.number (t ∷ ts)) none
          ∙ laid_stays c.args.id c.args.number t ts
          ∙ ap (λ (ps : List Plan). t ∷ laid_from c.args.id ps c.args.number ts) (sym none ∙ same);
      makes = ap (λ (ps : List Plan). makes ++ made_by ps) (sym same);
      layouts = λ h. subst AreLayouts (sym same) h;
      count = ap (λ (ps : List Plan). c.args.number + length ps) (sym same);
      fits = λ ts fit. omega (arith, ap (λ (ps : List Plan). length ps) (sym same ∙ none));
    }
