-- The first field of a block file that is not what it should be.
use Rattle.std.specs.Prelude.{◌≡◌, ℕ, zero, suc, ◌+◌, ◌==◌, ℤ, List, [], ◌∷◌, length, drop, Option, Some, None, Result}
use Rattle.std.specs.Prelude.{Ok, Err, MatchResult, if◌then◌else◌}
use Rattle.std.specs.Int.{w16, cast_signed}
use Rattle.byteorder.specs.Endian.{little_number}
use Rattle.peak_summary.specs.declared.stretch.Summary.{Summary}
use Rattle.sample_block.specs.{declared.damage.Damaged.Damaged, declared.damage.BadBlock.BadBlock}
use Rattle.sample_block.specs.{declared.block.Block.Block, Spelling.Field, Spelling.fields_of, Spelling.size_of}
use Rattle.sample_block.specs.declared.damage.BadBlock.TheVariants as bad

-- the number in the bytes from a place on
abbrev pub number_at : List ℕ → ℕ → ℕ → ℕ
number_at bytes at width = little_number width (drop at bytes)

-- the first of these fields that has another value, where they stand one after the other from a place on
abbrev pub difference : List ℕ → ℕ → List Field → Option Damaged
difference bytes at [] = None
difference bytes at (f ∷ fs) =
    if number_at bytes at f.width == f.value then difference bytes (at + f.width) fs
    else Some (record { at = at; want = f.value; have = number_at bytes at f.width })

-- the samples from a place on
abbrev pub samples_in : List ℕ → ℕ → ℕ → List ℤ
samples_in bytes at zero = []
samples_in bytes at (suc n) = cast_signed w16 (number_at bytes at 2) ∷ samples_in bytes (at + 2) n

-- the frame in the 12 bytes from a place on, of `count` samples
abbrev pub frame_in : List ℕ → ℕ → ℕ → Summary
frame_in bytes at count = record {
  min = cast_signed w16 (number_at bytes at 2);
  max = cast_signed w16 (number_at bytes (at + 2) 2);
  squares = number_at bytes (at + 4) 8;
  count = count;
}

-- the size, reported at 0
abbrev pub size_difference : ℕ → List ℕ → Option Damaged → Option Damaged
size_difference n bytes found =
    if length bytes == size_of n then found else Some (record { at = 0; want = size_of n; have = length bytes })

-- of a file for this id and this many samples: the size, and then the fields
abbrev pub damage_of : ℕ → ℕ → List ℕ → Option Damaged
damage_of id n bytes = size_difference n bytes (difference bytes 0 (fields_of id (samples_in bytes 16 n)))

-- a test answered so: Ok exactly where there is no difference
abbrev pub Tells : {T : Type 0} → Result T Damaged → Option Damaged → Type 0
Tells result found = MatchResult result (λ _. found ≡ None) (λ fault. found ≡ Some fault)

-- unless memory ran out, a reading found this fault, or none and these samples
abbrev pub Gives : Result Block BadBlock → (Option Damaged) × (List ℤ) → Type 0
Gives (Ok b) (found, xs) = (found ≡ None) × (b.samples ≡ xs)
Gives (Err bad.NoMemory) (found, xs) = Unit {0}
Gives (Err (bad.Damaged fault)) (found, xs) = found ≡ Some fault

-- a reading was refused with the fault that was found, unless memory ran out
abbrev pub IsFoundAs : Option Damaged → BadBlock → Type 0
IsFoundAs found bad.NoMemory = Unit {0}
IsFoundAs found (bad.Damaged fault) = found ≡ Some fault
