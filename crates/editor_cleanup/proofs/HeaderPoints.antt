-- The points of a history as a header has them, one after another.
use Rattle.editor_cleanup.proofs.Common.{◌≡◌, ℕ, zero, suc, ◌+◌, ◌^◌, ◌<◌, List, [], ◌∷◌, ◌++◌, length, map, Some, refl}
use Rattle.editor_cleanup.proofs.Common.{ap, arith, length-append, rules, slice_index, points_size}
use Rattle.editor_cleanup.proofs.Common.{AreShort, Track, point_bytes}
use Rattle.std.proofs.Common.{take, drop, slice_get}
use Rattle.std.specs.{List.flat_map}
use Rattle.pcm_base.specs.History.{point_of, tag_of}
use Rattle.project_journal.specs.{Packing.sized}

-- a point and its tag, at a place
pub tagged : {P : Type 0} (ps : List (P × ℕ)) (i : ℕ) (p : P) → slice_get (map point_of ps) i ≡ Some p
    → slice_get ps i ≡ Some (p, slice_index (map tag_of ps) i)
tagged [] i p e = absurd cc
tagged (x ∷ xs) zero p e = search rules
tagged (x ∷ xs) (suc i) p e = tagged xs i p e

-- a point after its length
abbrev pub row : List Track × ℕ → List ℕ
row p = sized (point_bytes p)

pub rows : (ps : List (List Track × ℕ)) → flat_map sized (map point_bytes ps) ≡ flat_map row ps
rows [] = refl
rows (p ∷ ps) = ap (λ (l : List ℕ). row p ++ l) (rows ps)

-- how many bytes there are
pub length_rows : (points : List (List ℕ)) → length (flat_map sized points) ≡ points_size points
length_rows [] = refl
length_rows (p ∷ ps) = omega (arith, length-append (sized p) (flat_map sized ps), length_rows ps)

-- those that are left
pub size_left : (ps : List (List Track × ℕ)) (i : ℕ) (x : List Track × ℕ) → drop i ps ≡ x ∷ drop (i + 1) ps
    → points_size (map point_bytes (drop i ps))
    ≡ 4 + length (point_bytes x) + points_size (map point_bytes (drop (i + 1) ps))
size_left ps i x e = ap (λ (xs : List (List Track × ℕ)). points_size (map point_bytes xs)) e

-- one more whose length 4 bytes tell
short_more : (ps : List (List Track × ℕ)) (x : List Track × ℕ) → AreShort (map point_bytes ps)
    → length (point_bytes x) < 2 ^ 32 → AreShort (map point_bytes (ps ++ x ∷ []))
short_more [] x short less = (less, tt)
short_more (p ∷ ps) x short less = (short.0, short_more ps x short.1 less)

pub short_next : (ps : List (List Track × ℕ)) (i : ℕ) (x : List Track × ℕ) → take (i + 1) ps ≡ take i ps ++ x ∷ []
    → AreShort (map point_bytes (take i ps)) → length (point_bytes x) < 2 ^ 32
    → AreShort (map point_bytes (take (i + 1) ps))
short_next ps i x e short less = search (rules, short_more)

pub short_at : (ps : List (List Track × ℕ)) (i : ℕ) (x : List Track × ℕ) → slice_get ps i ≡ Some x
    → AreShort (map point_bytes ps) → length (point_bytes x) < 2 ^ 32
short_at [] i x e short = absurd cc
short_at (p ∷ ps) zero x e short = search rules
short_at (p ∷ ps) (suc i) x e short = short_at ps i x e short.1
