-- One more is put.
use Rattle.mix_reader.proofs.Common.{◌≡◌, ℕ, ◌+◌, ◌-◌, List, ◌∷◌, drop, ap, refl, sym, subst, ◌∙◌, arith, drop_all}
use Rattle.mix_reader.proofs.Common.{length-set, Track, point_blocks, drop_some, layout_blocks, AllNamed, named_front}
use Rattle.mix_reader.proofs.Common.{TrackPass, AreRestsOf}
use Rattle.std.proofs.lemmas.List.{drop-set}
use Rattle.std.specs.Prelude.{replicate}
use Rattle.mix_reader.proofs.TrackLaws.{named_drop}
use Rattle.mix_reader.proofs.passes.passes_from.Goals as goal

pub rows-init : goal.rows-init
rows-init c =
    let none : TrackPass = record { rest = c.no_rest.result } in
    let P : List Track → Type 0 = λ ts. AreRestsOf c.args.from ts (drop c.len-i.result (replicate 64 none)) in
    record {
      within = omega (arith, c.len-i.ensures.value);
      size = refl;
      rests = subst P (sym (drop_all c.len-i.result c.args.point.now (omega (arith, c.len-i.ensures.value)))) tt;
    }

pub rest_at-rest-requires : goal.rest_at-rest-requires
rest_at-rest-requires c =
    let ts : List Track = c.args.point.now in
    let k = c.rows.i - 1 in
    let t : Track = c.track_at.result.now in
    let e : drop k ts ≡ t ∷ drop (k + 1) ts = drop_some ts k t c.track_at.ensures in
    let N : List Track → Type 0 = λ us. AllNamed (point_blocks us) in
    record {
      named = named_front (layout_blocks t.layout) (point_blocks (drop (k + 1) ts))
          (subst N e (named_drop k ts c.requires));
    }

pub rows-preserved : goal.rows-preserved
rows-preserved c =
    let ts : List Track = c.args.point.now in
    let i = c.rows.i in
    let k = i - 1 in
    let t : Track = c.track_at.result.now in
    let next : i ≡ k + 1 = omega arith in
    let e : t ∷ drop i ts ≡ drop k ts = ap (λ n. t ∷ drop n ts) next ∙ sym (drop_some ts k t c.track_at.ensures) in
    let one : TrackPass = record { rest = c.rest_at-rest.result } in
    let f : one ∷ drop i c.rows.out ≡ _ = ap (λ n. one ∷ drop n c.rows.out) next ∙ sym (drop-set c.rows.out k one
    (omega (arith, c.rows.invariant.size, c.rows.invariant.within, c.len-i.ensures.few, c.len-i.ensures.value))) in
    let P : List Track → Type 0 = λ us. AreRestsOf c.args.from us (one ∷ drop i c.rows.out) in
    let Q : List TrackPass → Type 0 = λ rs. AreRestsOf c.args.from (drop k ts) rs in
    record {
      within = omega (arith, c.rows.invariant.within);
      size = length-set c.rows.out k one ∙ c.rows.invariant.size;
      rests = subst Q f (subst P e (c.rest_at-rest.ensures.rest, c.rows.invariant.rests));
    }

pub returns : goal.returns
returns c =
    let none : c.rows.i ≡ 0 = omega arith in
    let P : ℕ → Type 0 = λ n. AreRestsOf c.args.from (drop n c.args.point.now) (drop n c.rows.out) in
    subst P none c.rows.invariant.rests
