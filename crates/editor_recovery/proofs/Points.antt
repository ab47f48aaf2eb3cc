-- The points of a history, one by one.
use Rattle.editor_recovery.proofs.Common.{◌≡◌, ℕ, ◌+◌, ◌<◌, ◌≤◌, List, [], ◌∷◌, ◌++◌, length, map, drop, get_or, Some}
use Rattle.editor_recovery.proofs.Common.{None, refl, sym, ap, subst, ◌∙◌, arith, length-map}
use Rattle.editor_recovery.proofs.Common.{slice_get_within, slice_get-get_or, All-from_recursion, recursion_from_All}
use Rattle.editor_recovery.proofs.Common.{All-get_or, All-contains, All, AllByRecursion, flat_map, slice_get, Contains}
use Rattle.editor_recovery.proofs.Common.{all_parts, drop_some, some_is, BlockRef, IsBlock, Track, point_blocks}
use Rattle.editor_recovery.proofs.Common.{all_append, IsBlockRef, first_wrong}
use Rattle.std.proofs.lemmas.Option.{slice_get-map}
use Rattle.std.specs.{Option.option_map}
use Rattle.pcm_base.specs.{History.point_of}
use Rattle.editor_recovery.proofs.Wrong.{found_origin}

-- the blocks of points
abbrev pub all_blocks : List (List Track × ℕ) → List BlockRef
all_blocks ps = flat_map (λ p. point_blocks p.0) ps

-- the point at a place
pub record PointAt (ps : List (List Track × ℕ)) (i : ℕ) (ts : List Track) : Type 0 where
  pub point : List Track × ℕ
  pub here : slice_get ps i ≡ Some point
  pub within : i < length ps
  pub read : get_or ps i (ts, 0) ≡ point
  pub is : point.0 ≡ ts

pub point_at : (ps : List (List Track × ℕ)) (i : ℕ) (ts : List Track) → slice_get (map point_of ps) i ≡ Some ts
    → PointAt ps i ts
point_at ps i ts e =
    let lt : i < length ps = omega (arith, slice_get_within (map point_of ps) i ts e, length-map ps point_of) in
    let p : List Track × ℕ = get_or ps i (ts, 0) in
    let here : slice_get ps i ≡ Some p = slice_get-get_or ps i (ts, 0) lt in
    let same : Some (p.0) ≡ Some ts = sym (slice_get-map point_of ps i ∙ ap (option_map point_of) here) ∙ e in
    record { point = p; here = here; within = lt; read = refl; is = some_is (p.0) ts same }

pub blocks_left : (ps : List (List Track × ℕ)) (i : ℕ) (ts : List Track) → slice_get (map point_of ps) i ≡ Some ts
    → all_blocks (drop i ps) ≡ point_blocks ts ++ all_blocks (drop (i + 1) ps)
blocks_left ps i ts e =
    let at = point_at ps i ts e in
    ap all_blocks (drop_some ps i at.point at.here)
    ∙ ap (λ (t : List Track). point_blocks t ++ all_blocks (drop (i + 1) ps)) at.is

pub all_at : (P : List Track → Type 0) (ps : List (List Track × ℕ)) (i : ℕ) (ts : List Track) → All (λ p. P p.0) ps
    → slice_get (map point_of ps) i ≡ Some ts → P ts
all_at P ps i ts all e =
    let at = point_at ps i ts e in
    subst P (ap (λ (p : List Track × ℕ). p.0) at.read ∙ at.is) (All-get_or (λ p. P p.0) ps i (ts, 0) at.within all)

flat_all : (Q : BlockRef → Type 0) (ps : List (List Track × ℕ)) → AllByRecursion (λ p. All Q (point_blocks p.0)) ps
    → AllByRecursion Q (all_blocks ps)
flat_all Q [] all = tt
flat_all Q (p ∷ ps) all = all_append Q (point_blocks p.0) (all_blocks ps)
    (recursion_from_All Q (point_blocks p.0) all.0) (flat_all Q ps all.1)

pub all_flat : (Q : BlockRef → Type 0) (ps : List (List Track × ℕ)) → All (λ p. All Q (point_blocks p.0)) ps
    → AllByRecursion Q (all_blocks ps)
all_flat Q ps all = flat_all Q ps (recursion_from_All (λ p. All Q (point_blocks p.0)) ps all)

-- and back
pub all_points : (Q : BlockRef → Type 0) (ps : List (List Track × ℕ)) → AllByRecursion Q (all_blocks ps)
    → All (λ p. All Q (point_blocks p.0)) ps
all_points Q ps all = All-from_recursion (λ p. All Q (point_blocks p.0)) ps (parts Q ps all)
  where
    parts : (Q : BlockRef → Type 0) (ps : List (List Track × ℕ)) → AllByRecursion Q (all_blocks ps)
        → AllByRecursion (λ p. All Q (point_blocks p.0)) ps
    parts Q [] all = tt
    parts Q (p ∷ ps) all =
        let both = all_parts Q (point_blocks p.0) (all_blocks ps) all in
        (All-from_recursion Q (point_blocks p.0) both.0, parts Q ps both.1)

pub both_all : {X : Type 0} (P Q R : X → Type 0) (xs : List X) → ((x : X) → P x → Q x → R x) → AllByRecursion P xs
    → AllByRecursion Q xs → AllByRecursion R xs
both_all P Q R [] f p q = tt
both_all P Q R (x ∷ xs) f p q = (f x p.0 q.0, both_all P Q R xs f p.1 q.1)

-- the block that was found is one of them
pub wrong_named : (sizes : ℕ → ℕ) (bs : List BlockRef) (b : BlockRef) → first_wrong sizes None bs ≡ Some b
    → Contains bs b
wrong_named sizes bs b some = (found_origin sizes bs b some).0

pub wrong_few : (sizes : ℕ → ℕ) (ps : List (List Track × ℕ)) (b : BlockRef)
    → All (λ p. All (λ b. IsBlock b.id b.len) (point_blocks p.0)) ps → first_wrong sizes None (all_blocks ps) ≡ Some b
    → b.len ≤ 262144
wrong_few sizes ps b all some =
    (All-contains IsBlockRef (all_blocks ps) b (All-from_recursion IsBlockRef (all_blocks ps)
    (all_flat IsBlockRef ps all)) (wrong_named sizes (all_blocks ps) b some)).few
