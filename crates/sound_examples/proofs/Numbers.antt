-- Pieces that are numbered one after another.
use Rattle.std.proofs.Common.{◌≡◌, ◌+◌, ◌<◌, ℕ, ℤ, List, [], ◌∷◌, ◌++◌, length, take, get_or, ap, sym, ◌∙◌, arith}
use Rattle.std.proofs.lemmas.List.{append_assoc, length-map, length-take-le, map_more, map_push}
use Rattle.pcm_base.specs.Parts.{Part}
use Rattle.edit_ports.specs.Answers.{numbered_pieces, samples_of}
use Rattle.sound_examples.specs.Memory.{pieces_of}

-- one piece more
numbered_more : (n : ℕ) (xs : List (List ℤ)) (x : List ℤ)
    → numbered_pieces n (xs ++ x ∷ []) ≡ numbered_pieces n xs ++ (x, n + length xs + 1) ∷ []
numbered_more n [] x = ap (λ (k : ℕ). (x, k) ∷ []) (omega arith)
numbered_more n (y ∷ ys) x =
    ap (λ (l : List (List ℤ × ℕ)). (y, n + 1) ∷ l) (numbered_more (n + 1) ys x
    ∙ ap (λ (k : ℕ). numbered_pieces (n + 1) ys ++ (x, k) ∷ []) (omega arith))

-- one chunk more that was added
pub added_more : (here old : List (Part × ℕ)) (chunks : List Part) (i : ℕ) (x d : Part) → i < length chunks
    → x ≡ get_or chunks i d → length here ≡ length old + i
    → pieces_of here ≡ pieces_of old ++ numbered_pieces (length old) (samples_of (take i chunks))
    → pieces_of (here ++ (x, length here + 1) ∷ [])
    ≡ pieces_of old ++ numbered_pieces (length old) (samples_of (take (i + 1) chunks))
added_more here old chunks i x d within is many so_far =
    let xs = samples_of (take i chunks) in
    let few : length xs ≡ i = length-map (take i chunks) (λ (c : Part). c.samples)
    ∙ length-take-le i chunks (omega (arith, within)) in
    let number : length here + 1 ≡ length old + length xs + 1 = omega (arith, many, few) in
    map_push (λ (p : Part × ℕ). (p.0.samples, p.1)) here (x, length here + 1)
    ∙ (ap (λ (l : List (List ℤ × ℕ)). l ++ (x.samples, length here + 1) ∷ []) so_far
    ∙ (append_assoc (pieces_of old) (numbered_pieces (length old) xs) ((x.samples, length here + 1) ∷ [])
    ∙ ap (λ (l : List (List ℤ × ℕ)). pieces_of old ++ l)
    (ap (λ (k : ℕ). numbered_pieces (length old) xs ++ (x.samples, k) ∷ []) number
    ∙ (sym (numbered_more (length old) xs x.samples)
    ∙ ap (numbered_pieces (length old))
    (ap (λ (y : Part). xs ++ y.samples ∷ []) is ∙ sym (map_more (λ (c : Part). c.samples) chunks i d within))))))
