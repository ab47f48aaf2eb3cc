-- What may be there, or something else in its place.
use Rattle.std.specs.Prelude.{◌≡◌, Result, Err, IsOkAnd, MatchResult}

-- something came of what was given that is related to it; what stood in its place came back
abbrev pub IfGiven : {A B I : Type 0} → (A → B → Type 0) → Result A I → Result B I → Type 0
IfGiven of given result = MatchResult given (λ a. IsOkAnd result (of a)) (λ other. result ≡ Err other)
