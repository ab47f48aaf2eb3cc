-- What holds of the points of a history with one more, and of its current one.
use Rattle.editor_commits.proofs.Common.{rules, ◌≡◌, refl, ap, ◌∙◌, ℕ, ◌+◌, ◌-◌, ◌≤◌, List, [], ◌∷◌, ◌++◌, drop, length}
use Rattle.editor_commits.proofs.Common.{length-append, arith, length-drop, AllByRecursion, BlockRef, History, kept}
use Rattle.editor_commits.proofs.Common.{edited, Track, point_blocks, history_blocks, first_tracks, current_tracks}
use Rattle.editor_commits.proofs.Common.{all_append, all_take, all_drop, all_each, all_joined}
use Rattle.std.proofs.lemmas.List.{drop-append-le}
use Rattle.pcm_base.specs.History.{ending_with}

-- a point with its tag
abbrev pub Tagged : Type 0
Tagged = List Track × ℕ

-- ---- a point after others

-- a history does not grow beyond its depth
pub ending_few : (h : History (List Track)) (before : List Tagged) (p : List Track) (tag : ℕ)
    → length (ending_with h before (p, tag)).points ≤ h.depth
ending_few h before p tag = search (rules, length-drop)

pub ending_all : (h : History (List Track)) (before : List Tagged) (p : List Track) (tag : ℕ) (Q : Tagged → Type 0)
    → AllByRecursion Q before → Q (p, tag) → AllByRecursion Q (ending_with h before (p, tag)).points
ending_all h before p tag Q all one = search (rules, all_drop, all_append)

drop_all_but : (zs : List Tagged) (x : Tagged) → drop (length zs) (zs ++ x ∷ []) ≡ x ∷ []
drop_all_but [] x = refl
drop_all_but (z ∷ zs) x = drop_all_but zs x

last_of : (zs : List Tagged) (x : Tagged) → first_tracks (drop (length (zs ++ x ∷ []) - 1) (zs ++ x ∷ [])) ≡ x.0
last_of zs x =
    let n : length (zs ++ x ∷ []) - 1 ≡ length zs = omega (arith, length-append zs (x ∷ [])) in
    ap (λ (k : ℕ). first_tracks (drop k (zs ++ x ∷ []))) n ∙ ap first_tracks (drop_all_but zs x)

-- the last is the current one
pub ending_current : (h : History (List Track)) (before : List Tagged) (p : List Track) (tag : ℕ) → 1 ≤ h.depth
    → current_tracks (ending_with h before (p, tag)) ≡ p
ending_current h before p tag some = search (rules, length-append, drop-append-le, last_of)

-- ---- after the current one

pub all_edited : (Q : Tagged → Type 0) (h : History (List Track)) (p : List Track) (tag : ℕ) → AllByRecursion Q h.points
    → Q (p, tag) → AllByRecursion Q (edited h p tag).points
all_edited Q h p tag all one = ending_all h (kept h) p tag Q (all_take Q (h.cursor + 1) h.points all) one

pub blocks_edited : (P : BlockRef → Type 0) (h : History (List Track)) (p : List Track) (tag : ℕ)
    → AllByRecursion P (history_blocks h)
    → AllByRecursion P (point_blocks p) → AllByRecursion P (history_blocks (edited h p tag))
blocks_edited P h p tag all one = search (rules, all_each, all_joined, all_edited)

-- ---- the current one

first_all : (Q : List Track → Type 0) → Q [] → (ps : List (List Track × ℕ)) → AllByRecursion (λ p. Q p.0) ps
    → Q (first_tracks ps)
first_all Q none [] all = none
first_all Q none (p ∷ ps) all = all.0

pub current_all : (Q : List Track → Type 0) → Q [] → (h : History (List Track)) → AllByRecursion (λ p. Q p.0) h.points
    → Q (current_tracks h)
current_all Q none h all = first_all Q none (drop h.cursor h.points) (all_drop (λ p. Q p.0) h.cursor h.points all)

pub current_blocks : (P : BlockRef → Type 0) (h : History (List Track)) → AllByRecursion P (history_blocks h)
    → AllByRecursion P (point_blocks (current_tracks h))
current_blocks P h all = current_all (λ ts. AllByRecursion P (point_blocks ts)) tt h
    (all_each P (λ (q : List Track × ℕ). point_blocks q.0) h.points all)
