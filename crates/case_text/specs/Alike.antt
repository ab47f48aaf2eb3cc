-- When a printed text is as wanted.
use Rattle.std.specs.Prelude.{ℕ, ◌≡◌, ◌≢◌, ◌⊎◌, ◌==◌, ◌&&◌, ◌++◌, nat_le, List, [], ◌∷◌, length, Bool, true, false}
use Rattle.std.specs.Prelude.{Option, Some, None, if◌then◌else◌, codes}

-- the digits 0 to 9
abbrev pub is_digit : ℕ → Bool
is_digit b = nat_le 48 b && nat_le b 57

-- what follows the digits that a text begins with
abbrev pub without_digits : List ℕ → List ℕ
without_digits [] = []
without_digits (b ∷ bs) = if is_digit b then without_digits bs else b ∷ bs

-- what follows in a text after one byte that is wanted. For `#` stands a number: one digit or more, and all that stand
-- there
abbrev pub after_one : ℕ → List ℕ → Option (List ℕ)
after_one w [] = None
after_one w (b ∷ bs) =
    if w == 35 then (if is_digit b then Some (without_digits bs) else None) else (if w == b then Some bs else None)

-- whether what is left of a text is as a test says, if there is such a rest
abbrev pub rest_is : (List ℕ → Bool) → Option (List ℕ) → Bool
rest_is test None = false
rest_is test (Some rest) = test rest

-- whether a text is as wanted, where each `#` stands for a number
abbrev pub is_numbered : List ℕ → List ℕ → Bool
is_numbered [] text = length text == 0
is_numbered (w ∷ ws) text = rest_is (is_numbered ws) (after_one w text)

-- a text that begins and ends so
abbrev pub IsAround : List ℕ → List ℕ → List ℕ → Type 0
IsAround begins ends text = (between : List ℕ) × (text ≡ begins ++ (between ++ ends))

-- nowhere three dots
abbrev pub LacksDots : List ℕ → Type 0
LacksDots wanted = (begins ends : List ℕ) → wanted ≢ begins ++ (codes "..." ++ ends)

-- a text that is as wanted: three dots stand for any bytes, and where there are none each `#` for a number
abbrev pub IsAlike : List ℕ → List ℕ → Type 0
IsAlike wanted text = (LacksDots wanted × (is_numbered wanted text ≡ true))
    ⊎ ((begins : List ℕ) × (ends : List ℕ) × (wanted ≡ begins ++ (codes "..." ++ ends)) × IsAround begins ends text)
