-- The mix written to a vault.
use Rattle.std.specs.Prelude.{◌≡◌, ℕ, Option, Some, List, Result, MatchResult}
use Rattle.pcm_base.specs.declared.entry.SoundMove.{SoundMove}
use Rattle.wav_pcm.specs.Written.{MayBegin}

-- a sound as a vault has it before a call and after it
abbrev pub moved_from : Option (List ℕ) → Option (List ℕ) → SoundMove
moved_from old new = record { before = old; after = new }

-- a sound holds a text, or after an error it is as it was or holds the text's first bytes
abbrev pub Writes : {R E : Type 0} → List ℕ → Option (List ℕ) → Option (List ℕ) → Result R E → Type 0
Writes text old new result = MatchResult result (λ _. new ≡ Some text) (λ _. MayBegin text old new)
