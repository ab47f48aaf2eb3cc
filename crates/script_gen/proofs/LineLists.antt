-- One line more.
use Rattle.std.proofs.Common.{◌≡◌, ℕ, zero, suc, ◌+◌, ◌-◌, ◌<◌, ◌≤◌, List, [], ◌∷◌, ◌++◌, length, refl, ap, sym, ◌∙◌}
use Rattle.std.proofs.{Common.append_assoc, Common.arith, lemmas.List.append-nil}
use Rattle.pcm_base.specs.declared.command.Command.{Command}
use Rattle.script_gen.specs.declared.place.Place.{Place}
use Rattle.script_gen.specs.Script.{first_place, line_at, lines_from, script_of}

lines_from-suc : (n left : ℕ) (p : Place) → n ≡ suc left →
    lines_from n p ≡ (line_at left p).line ∷ lines_from left (line_at left p).place
lines_from-suc n left p e = ap (λ (k : ℕ). lines_from k p) e

-- the line that is written here stands before those from the next place on
pub lines_from-more : (xs : List Command) (lines made : ℕ) (p q : Place) (line : Command) → made < lines →
    line ≡ (line_at (lines - 1 - made) p).line → q ≡ (line_at (lines - 1 - made) p).place →
    (xs ++ line ∷ []) ++ lines_from (lines - (made + 1)) q ≡ xs ++ lines_from (lines - made) p
lines_from-more xs lines made p q line h is next =
    let left = lines - 1 - made in
    let behind : lines - (made + 1) ≡ left = omega arith in
    let here : lines - made ≡ suc left = omega arith in
    append_assoc xs (line ∷ []) (lines_from (lines - (made + 1)) q)
    ∙ ap (λ (k : ℕ). xs ++ line ∷ lines_from k q) behind
    ∙ ap (λ (r : Place). xs ++ line ∷ lines_from left r) next
    ∙ ap (λ (c : Command). xs ++ c ∷ lines_from left (line_at left p).place) is
    ∙ ap (λ (cs : List Command). xs ++ cs) (sym (lines_from-suc (lines - made) left p here))

-- where none is left, these are all
pub lines_from-none : (xs ys : List Command) (lines made : ℕ) (p : Place) → lines ≤ made →
    xs ++ lines_from (lines - made) p ≡ ys → xs ≡ ys
lines_from-none xs ys lines made p h e =
    let none : lines - made ≡ 0 = omega arith in
    sym (append-nil xs) ∙ ap (λ (k : ℕ). xs ++ lines_from k p) (sym none) ∙ e

pub length-lines_from : (left : ℕ) (p : Place) → length (lines_from left p) ≡ left
length-lines_from zero p = refl
length-lines_from (suc left) p = ap suc (length-lines_from left (line_at left p).place)

pub length-script_of : (number lines : ℕ) → 2 ≤ lines → length (script_of number lines) ≡ lines
length-script_of number lines h = omega (arith, length-lines_from (lines - 2) (first_place number))
