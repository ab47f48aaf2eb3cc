-- A piece makes the record of a project no shorter.
use Rattle.std.proofs.Common.{◌≡◌, ◌==◌, ◌∙◌, refl, ap, ℕ, ℤ, ◌+◌, ◌-◌, ◌*◌, ◌≤◌, ◌<◌, Bool, true, false, List, [], ◌∷◌}
use Rattle.std.proofs.Common.{◌++◌, arith, add-mul, mul-le-mul_right, inl, inr}
use Rattle.std.proofs.{lemmas.Grind.div_ceil_times, lemmas.Bool.cases_lt}
use Rattle.std.specs.{Int.div_ceil, Prelude.if◌then◌else◌}
use Rattle.pcm_base.specs.Sizes.{clip_count, clip_starts, project_body_most, project_clips, project_samples}
use Rattle.pcm_base.specs.{Sizes.sample_count, declared.sound.Cell.Cell, declared.sound.Cell.TheVariants.Gap}
use Rattle.pcm_base.specs.{declared.sound.Cell.TheVariants.Sample, Cells.Project, Cells.edited_at, Cells.joined}
use Rattle.pcm_base.specs.{Cells.trimmed, Cells.with_cells, Edits.as_cells, State.State, State.current, Step.with_piece}
use Rattle.model_laws.proofs.Again.{recorded_current}

-- ---- cells

samples_joined : (x : Cell) (ys : List Cell) → sample_count (joined x ys) ≡ sample_count (x ∷ ys)
samples_joined Gap [] = refl
samples_joined Gap (y ∷ ys) = refl
samples_joined (Sample s) ys = refl

samples_step : (x : Cell) (xs ys : List Cell) → sample_count xs ≡ sample_count ys →
    sample_count (x ∷ xs) ≡ sample_count (x ∷ ys)
samples_step Gap xs ys same = same
samples_step (Sample s) xs ys same = ap (λ (n : ℕ). 1 + n) same

samples_trimmed : (xs : List Cell) → sample_count (trimmed xs) ≡ sample_count xs
samples_trimmed [] = refl
samples_trimmed (x ∷ xs) = samples_joined x (trimmed xs) ∙ samples_step x (trimmed xs) xs (samples_trimmed xs)

starts_joined : (b : Bool) (x : Cell) (ys : List Cell) → clip_starts b (joined x ys) ≡ clip_starts b (x ∷ ys)
starts_joined b Gap [] = refl
starts_joined b Gap (y ∷ ys) = refl
starts_joined b (Sample s) ys = refl

starts_step : (b : Bool) (x : Cell) (xs ys : List Cell) →
    ((c : Bool) → clip_starts c xs ≡ clip_starts c ys) → clip_starts b (x ∷ xs) ≡ clip_starts b (x ∷ ys)
starts_step b Gap xs ys same = same false
starts_step b (Sample s) xs ys same = ap (λ (n : ℕ). (if b then 0 else 1) + n) (same true)

starts_trimmed : (xs : List Cell) (b : Bool) → clip_starts b (trimmed xs) ≡ clip_starts b xs
starts_trimmed [] b = refl
starts_trimmed (x ∷ xs) b =
    starts_joined b x (trimmed xs) ∙ starts_step b x (trimmed xs) xs (λ c. starts_trimmed xs c)

samples_more : (xs ys : List Cell) → sample_count xs ≤ sample_count (xs ++ ys)
samples_more [] ys = omega arith
samples_more (Gap ∷ xs) ys = samples_more xs ys
samples_more (Sample s ∷ xs) ys = omega (arith, samples_more xs ys)

starts_more : (xs ys : List Cell) (b : Bool) → clip_starts b xs ≤ clip_starts b (xs ++ ys)
starts_more [] ys b = omega arith
starts_more (Gap ∷ xs) ys b = starts_more xs ys false
starts_more (Sample s ∷ xs) ys b = omega (arith, starts_more xs ys true)

-- ---- projects

module _ (track : ℕ) (samples : List ℤ) where
  abbrev f : List Cell → List Cell
  f cells = trimmed (cells ++ as_cells samples)

  samples_grow : (cells : List Cell) → sample_count cells ≤ sample_count (f cells)
  samples_grow cells =
      omega (arith, samples_more cells (as_cells samples), samples_trimmed (cells ++ as_cells samples))

  clips_grow : (cells : List Cell) → clip_count cells ≤ clip_count (f cells)
  clips_grow cells =
      omega (arith, starts_more cells (as_cells samples) false, starts_trimmed (cells ++ as_cells samples) false)

  project_grows : (p : Project) → (project_samples p ≤ project_samples (edited_at track f p))
      × (project_clips p ≤ project_clips (edited_at track f p))
  project_grows [] = (omega arith, omega arith)
  project_grows (t ∷ ts) = by (t.id == track) (project_grows ts)
    where
      by : (b : Bool) → (project_samples ts ≤ project_samples (edited_at track f ts))
          × (project_clips ts ≤ project_clips (edited_at track f ts))
          → (project_samples (t ∷ ts)
          ≤ project_samples (if b then with_cells f t ∷ ts else t ∷ edited_at track f ts))
          × (project_clips (t ∷ ts) ≤ project_clips (if b then with_cells f t ∷ ts else t ∷ edited_at track f ts))
      by true more = (omega (arith, samples_grow t.cells), omega (arith, clips_grow t.cells))
      by false more = (omega (arith, more.0), omega (arith, more.1))

-- ---- bodies

ceil_grows : (a b m : ℕ) → 0 < m → a ≤ b → div_ceil a m ≤ div_ceil b m
ceil_grows a b m some few = elim (cases_lt (div_ceil b m) (div_ceil a m)) [
  | inl less ↦
      let q = div_ceil b m + 1 in
      let long : q * m ≤ div_ceil a m * m = mul-le-mul_right m (omega (arith, less)) in
      absurd (omega (
        arith,
        long,
        add-mul (div_ceil b m) 1 m,
        (div_ceil_times a m some).1,
        (div_ceil_times b m some).0,
        few,
      ))
  | inr fits ↦ fits
]

pub piece_grows : (m : ℕ) (s : State) (track tag : ℕ) (samples : List ℤ) → 0 < m → 1 ≤ s.history.depth →
    project_body_most m (current s) ≤ project_body_most m (current (with_piece s track tag samples))
piece_grows m s track tag samples some depth =
    let p = current s in
    let g = λ (cells : List Cell). trimmed (cells ++ as_cells samples) in
    let grown = project_grows track samples p in
    omega (
      arith,
      grown.1,
      ceil_grows (project_samples p) (project_samples (edited_at track g p)) m some grown.0,
      ap (project_body_most m) (recorded_current s.history (edited_at track g p) tag depth),
    )
