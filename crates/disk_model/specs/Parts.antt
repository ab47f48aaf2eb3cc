-- Parts of files that are read together into one buffer of samples.
use Rattle.std.specs.Prelude.{◌≤◌, ◌<◌, ◌+◌, ◌*◌, ℕ, zero, suc, ℤ, List, [], ◌∷◌, ◌++◌, length, take, drop}
use Rattle.std.specs.Int.{w16, cast_signed}
use Rattle.byteorder.specs.Endian.{little_number}
use Rattle.pcm_base.specs.declared.limits.TheConstants.{COUNTER_LIMIT}
use Rattle.disk_model.specs.{Disk.Files, Disk.bytes_of, declared.parts.Part.Part}

-- n samples of 16 bits, little-endian, in the bytes from a place on
abbrev pub samples_from : List ℕ → ℕ → ℕ → List ℤ
samples_from bytes at zero = []
samples_from bytes at (suc n) = cast_signed w16 (little_number 2 (drop at bytes)) ∷ samples_from bytes (at + 2) n

-- the samples of a part
abbrev pub part_samples : Files → Part → List ℤ
part_samples files p = samples_from (bytes_of (files p.file)) p.at p.len

-- the file does not end before the part does; a part of no samples asks nothing of its file
abbrev pub IsThere : Files → Part → Type 0
IsThere files p = 0 < p.len → p.at + 2 * p.len ≤ length (bytes_of (files p.file))

abbrev pub AllThere : Files → List Part → Type 0
AllThere files [] = Unit {0}
AllThere files (p ∷ ps) = IsThere files p × AllThere files ps

-- the places of parts follow one another from one place up to another, and no offset is too great
abbrev pub AreParts : (from to : ℕ) → List Part → Type 0
AreParts from to [] = from ≤ to
AreParts from to (p ∷ ps) = (from ≤ p.to) × (p.at + 2 * p.len ≤ COUNTER_LIMIT) × AreParts (p.to + p.len) to ps

-- a buffer with these samples at a place
abbrev pub put_at : ℕ → List ℤ → List ℤ → List ℤ
put_at to xs out = take to out ++ (xs ++ drop (to + length xs) out)

-- a buffer with each part at its place
abbrev pub filled : Files → List Part → List ℤ → List ℤ
filled files [] out = out
filled files (p ∷ ps) out = filled files ps (put_at p.to (part_samples files p) out)
