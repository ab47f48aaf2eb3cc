-- The samples that a command brings, each by its place.
use Rattle.std.specs.Prelude.{ℕ, zero, suc, ℤ, pos, ◌+ℤ◌, ◌*ℤ◌, List, [], ◌∷◌, length, slice_index_or, true, false}
use Rattle.std.specs.Prelude.{None}
use Rattle.pcm_base.specs.Arithmetic.{clamped}
use Rattle.block_writer.specs.declared.given.Given.TheVariants.{Nothing, Samples, Ramp}
use Rattle.block_writer.specs.{Brought.Brought, declared.given.Given.Given}

abbrev pub brought : Given → ℕ → ℤ
brought Nothing i = pos 0
brought (Samples xs) i = slice_index_or xs.now i (pos 0)
brought (Ramp start step count) i = clamped (start +ℤ pos i *ℤ step)

-- this many samples of a ramp, from a place on
abbrev pub ramp_samples : ℤ → ℤ → ℕ → ℕ → List ℤ
ramp_samples start step from zero = []
ramp_samples start step from (suc n) = clamped (start +ℤ pos from *ℤ step) ∷ ramp_samples start step (suc from) n

-- how many there are
abbrev pub brought_count : Given → ℕ
brought_count Nothing = 0
brought_count (Samples xs) = length xs.now
brought_count (Ramp start step count) = count

-- all that is known of them: they never fail to come
abbrev pub brought_by : Given → Brought
brought_by given = record {
  count = brought_count given;
  tells = true;
  samples = brought given;
  may_fail = false;
  sounds = λ _. None;
}
