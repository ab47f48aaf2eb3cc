-- The one spelling of a block as bytes.
use Rattle.std.specs.Prelude.{◌≡◌, ℕ, ◌+◌, ◌*◌, ◌≤◌, ◌<◌, ℤ, List, [], ◌∷◌, ◌++◌, length, map}
use Rattle.std.specs.{Int.w16, Int.cast_unsigned, List.flat_map}
use Rattle.byteorder.specs.Endian.{little_bytes}
use Rattle.pcm_base.specs.declared.limits.TheConstants.{COUNTER_LIMIT, FIRST_BLOCK, MAX_BLOCK_SAMPLES}
use Rattle.sample_block.specs.declared.levels.TheConstants.{LONG_FRAME}
use Rattle.peak_summary.specs.{Peaks.AreSamples, Peaks.frames_of, Peaks.frame_count, declared.stretch.Summary.Summary}

-- a number of `width` bytes, the lowest of them first
pub record Field : Type 0 where
  pub width : ℕ
  pub value : ℕ

abbrev pub number : ℕ → ℕ → Field
number w n = record { width = w; value = n }

abbrev pub field_bytes : Field → List ℕ
field_bytes f = little_bytes f.width f.value

-- two's complement
abbrev pub sample_field : ℤ → Field
sample_field s = number 2 (cast_unsigned w16 s)

abbrev pub sample_bytes : ℤ → List ℕ
sample_bytes s = field_bytes (sample_field s)

abbrev pub frame_fields : Summary → List Field
frame_fields f = sample_field f.min ∷ sample_field f.max ∷ number 8 f.squares ∷ []

-- `ABK1`, the id and how many samples there are
abbrev pub header_fields : ℕ → ℕ → List Field
header_fields id count = number 4 0x314B4241 ∷ number 8 id ∷ number 4 count ∷ []

-- the frames of n samples each
abbrev pub level_fields : ℕ → List ℤ → List Field
level_fields n xs = flat_map frame_fields (frames_of n xs)

-- the samples, and the frames of both levels
abbrev pub body_fields : List ℤ → List Field
body_fields xs = map sample_field xs ++ (level_fields 256 xs ++ level_fields LONG_FRAME xs)

-- all the fields of the file, in order
abbrev pub fields_of : ℕ → List ℤ → List Field
fields_of id xs = header_fields id (length xs) ++ body_fields xs

abbrev pub spelling : ℕ → List ℤ → List ℕ
spelling id xs = flat_map field_bytes (fields_of id xs)

abbrev pub size_of : ℕ → ℕ
size_of n = 16 + 2 * n + 12 * (frame_count 256 n + frame_count LONG_FRAME n)

-- the ids that blocks may have, and how many samples
pub record IsBlock (id count : ℕ) : Type 0 where
  pub id_low : FIRST_BLOCK ≤ id
  pub id_high : id < COUNTER_LIMIT
  pub some : 1 ≤ count
  pub few : count ≤ MAX_BLOCK_SAMPLES

-- these bytes are the block with this id and these samples
abbrev pub IsSpelled : ℕ → List ℤ → List ℕ → Type 0
IsSpelled id xs bytes = AreSamples xs × (bytes ≡ spelling id xs)
