-- Cells without a gap, and what the edits of a script leave of them.
use Rattle.std.proofs.Common.{◌≡◌, ℕ, ℤ, ◌+◌, ◌-◌, ◌≤◌, true, List, [], ◌∷◌, ◌++◌, length, map, take, drop, All}
use Rattle.std.proofs.Common.{replicate, refl, ap, subst, sym, ◌∙◌, arith}
use Rattle.std.proofs.lemmas.List.{append-nil, length-append, length-drop, length-map, length-take}
use Rattle.std.proofs.lemmas.List.Elements.{All-append, All-drop, All-head, All-map, All-tail, All-take, All-weaker}
use Rattle.pcm_base.specs.Edits.{changed, deleted, gained, inserted, part, quieted, ramp_of, range_of}
use Rattle.pcm_base.specs.{declared.sound.Cell.Cell, declared.sound.Cell.TheVariants.Gap}
use Rattle.pcm_base.specs.{declared.sound.Cell.TheVariants.Sample, Arithmetic.counted_from, Cells.continued}
use Rattle.pcm_base.specs.{Cells.joined, Cells.trimmed, Sizes.clip_count, Sizes.clip_starts, Sizes.sample_count}
use Rattle.model_laws.proofs.EditLengths.{length-ramp_of}

abbrev pub IsSample : Cell → Type 0
IsSample Gap = ⊥
IsSample (Sample s) = Unit {0}

-- this many cells, of which none is a gap
pub record HasSamples (len : ℕ) (cells : List Cell) : Type 0 where
  pub samples : All IsSample cells
  pub length_is : length cells ≡ len

-- ---- no gap goes, and there is one clip

samples-trimmed : (xs : List Cell) → All IsSample xs → trimmed xs ≡ xs
samples-trimmed [] h = refl
samples-trimmed (Gap ∷ xs) h = absurd (All-head IsSample Gap xs h)
samples-trimmed (Sample s ∷ xs) h =
    ap (joined (Sample s)) (samples-trimmed xs (All-tail IsSample (Sample s) xs h))

sample_count-all : (xs : List Cell) → All IsSample xs → sample_count xs ≡ length xs
sample_count-all [] h = refl
sample_count-all (Gap ∷ xs) h = absurd (All-head IsSample Gap xs h)
sample_count-all (Sample s ∷ xs) h = omega (arith, sample_count-all xs (All-tail IsSample (Sample s) xs h))

clip_starts-none : (xs : List Cell) → All IsSample xs → clip_starts true xs ≡ 0
clip_starts-none [] h = refl
clip_starts-none (Gap ∷ xs) h = absurd (All-head IsSample Gap xs h)
clip_starts-none (Sample s ∷ xs) h = omega (arith, clip_starts-none xs (All-tail IsSample (Sample s) xs h))

pub sample_count-full : (len : ℕ) (cells : List Cell) → HasSamples len cells → sample_count cells ≡ len
sample_count-full len cells h = sample_count-all cells h.samples ∙ h.length_is

pub clip_count-full : (len : ℕ) (cells : List Cell) → HasSamples len cells → clip_count cells ≤ 1
clip_count-full len [] h = omega arith
clip_count-full len (Gap ∷ xs) h = absurd (All-head IsSample Gap xs h.samples)
clip_count-full len (Sample s ∷ xs) h =
    omega (arith, clip_starts-none xs (All-tail IsSample (Sample s) xs h.samples))

-- ---- edits

trimmed-full : (len : ℕ) (cells : List Cell) → HasSamples len cells → HasSamples len (trimmed cells)
trimmed-full len cells h = subst (HasSamples len) (sym (samples-trimmed cells h.samples)) h

continued-same : (to : ℕ) (cells : List Cell) → to ≤ length cells → continued to cells ≡ cells
continued-same to cells h =
    let none : to - length cells ≡ 0 = omega arith in
    ap (λ (k : ℕ). cells ++ replicate k Gap) none ∙ append-nil cells

appended-full : (m n : ℕ) (xs ys : List Cell) → HasSamples m xs → HasSamples n ys → HasSamples (m + n) (xs ++ ys)
appended-full m n xs ys h k = record {
  samples = All-append IsSample xs ys h.samples k.samples;
  length_is = omega (arith, h.length_is, k.length_is, length-append xs ys);
}

taken-full : (len n : ℕ) (cells : List Cell) → n ≤ len → HasSamples len cells → HasSamples n (take n cells)
taken-full len n cells few h =
    let long : length (take n cells) ≡ n = omega (arith, h.length_is, length-take n cells) in
    record { samples = All-take IsSample n cells h.samples; length_is = long }

dropped-full : (len n : ℕ) (cells : List Cell) → HasSamples len cells → HasSamples (len - n) (drop n cells)
dropped-full len n cells h =
    let long : length (drop n cells) ≡ len - n = omega (arith, h.length_is, length-drop n cells) in
    record { samples = All-drop IsSample n cells h.samples; length_is = long }

same_length : (m n : ℕ) (cells : List Cell) → m ≡ n → HasSamples m cells → HasSamples n cells
same_length m n cells e h = subst (λ (k : ℕ). HasSamples k cells) e h

pub ramp-full : (n : ℕ) (start step : ℤ) → HasSamples n (ramp_of n start step)
ramp-full n start step = record {
  samples = All-map IsSample _ (counted_from 0 n) (λ k d h. tt);
  length_is = length-ramp_of n start step;
}

pub inserted-full : (len n at : ℕ) (xs cells : List Cell) → at ≤ len → HasSamples n xs → HasSamples len cells →
    HasSamples (len + n) (inserted at xs cells)
inserted-full len n at xs cells within new h =
    let same = continued-same at cells (omega (arith, h.length_is)) in
    let front : HasSamples at (take at (continued at cells)) =
    subst (λ (l : List Cell). HasSamples at (take at l)) (sym same) (taken-full len at cells within h) in
    let all = appended-full (at + n) (len - at) (take at (continued at cells) ++ xs) (drop at cells)
    (appended-full at n (take at (continued at cells)) xs front new) (dropped-full len at cells h) in
    trimmed-full (len + n) _ (same_length (at + n + (len - at)) (len + n) _ (omega arith) all)

pub deleted-full : (len from to : ℕ) (cells : List Cell) → from ≤ to → to ≤ len → HasSamples len cells →
    HasSamples (len - (to - from)) (deleted from to cells)
deleted-full len from to cells order within h =
    let all = appended-full from (len - to) (take from cells) (drop to cells)
    (taken-full len from cells (omega arith) h) (dropped-full len to cells h) in
    trimmed-full (len - (to - from)) _ (same_length (from + (len - to)) (len - (to - from)) _ (omega arith) all)

pub part-full : (len from to : ℕ) (cells : List Cell) → from ≤ to → to ≤ len → HasSamples len cells →
    HasSamples (to - from) (part from to cells)
part-full len from to cells order within h =
    taken-full (len - from) (to - from) (drop from cells) (omega arith) (dropped-full len from cells h)

mapped-full : (len : ℕ) (f : Cell → Cell) (cells : List Cell) → ((x : Cell) → IsSample x → IsSample (f x)) →
    HasSamples len cells → HasSamples len (map f cells)
mapped-full len f cells kept h = record {
  samples = All-map IsSample f cells (All-weaker IsSample (λ x. IsSample (f x)) kept cells h.samples);
  length_is = length-map cells f ∙ h.length_is;
}

pub changed-full : (len from to : ℕ) (f : Cell → Cell) (cells : List Cell) →
    ((x : Cell) → IsSample x → IsSample (f x)) → from ≤ to → to ≤ len → HasSamples len cells →
    HasSamples len (changed f from to cells)
changed-full len from to f cells kept order within h =
    let met = mapped-full (to - from) f (part from to cells) kept (part-full len from to cells order within h) in
    let front = appended-full from (to - from) (take from cells) (map f (part from to cells))
    (taken-full len from cells (omega arith) h) met in
    let all = appended-full (from + (to - from)) (len - to) (take from cells ++ map f (part from to cells))
    (drop to cells) front (dropped-full len to cells h) in
    trimmed-full len _ (same_length (from + (to - from) + (len - to)) len _ (omega arith) all)

pub range-full : (len from to : ℕ) (cells : List Cell) → from ≤ to → to ≤ len → HasSamples len cells →
    HasSamples (to - from) (range_of from to cells)
range-full len from to cells order within h =
    let same = continued-same to cells (omega (arith, h.length_is)) in
    subst (λ (l : List Cell). HasSamples (to - from) (part from to l)) (sym same)
    (part-full len from to cells order within h)

pub quieted-sample : (x : Cell) → IsSample x → IsSample (quieted x)
quieted-sample Gap h = absurd h
quieted-sample (Sample s) h = tt

pub gained-sample : (gain : ℕ) (x : Cell) → IsSample x → IsSample (gained gain x)
gained-sample gain Gap h = absurd h
gained-sample gain (Sample s) h = tt
