-- How much of a disk the lines of a script may need.
use Rattle.std.specs.Prelude.{ℕ, ◌+◌, ◌-◌, ◌*◌, ◌≤◌, List, [], ◌∷◌, length}
use Rattle.std.specs.Int.{div_ceil}
use Rattle.pcm_base.specs.{declared.answer.Reply.Reply, declared.command.Call.TheVariants.Line}
use Rattle.pcm_base.specs.{declared.command.Command.Command, declared.entry.SoundMove.SoundMove, Counters.Needs}
use Rattle.pcm_base.specs.{Counters.places_of, Run.CarriesOut, Run.outside, Studio.Studio, Studio.fresh}

-- Whatever a line needs within its bounds, it makes at most this many blocks, and its record has a body of at most this
-- length.
pub record NeedsAtMost (t : Studio) (c : Command) (blocks len : ℕ) : Type 0 where
  pub most : (sound : SoundMove) (b l : ℕ) → Needs (outside t sound) t (Line c) b l → (b ≤ blocks) × (l ≤ len)

-- each line where it stands, by whichever steps those before it were carried out
abbrev pub EachNeedsAtMost : Studio → List Command → ℕ → ℕ → Type 0
EachNeedsAtMost t [] blocks len = Unit {0}
EachNeedsAtMost t (c ∷ cs) blocks len =
    NeedsAtMost t c blocks len
    × ((sound : SoundMove) (reply : Reply) (next : Studio) → CarriesOut t (Line c) sound reply next →
    EachNeedsAtMost next cs blocks len)

-- The sums over lines: of the blocks that each may make, and of the bytes that each may put into the journal, are at
-- most these.
abbrev pub SumsAtMost : Studio → List Command → ℕ → ℕ → Type 0
SumsAtMost t [] blocks bytes = Unit {0}
SumsAtMost t (c ∷ cs) blocks bytes =
    (b : ℕ) × (l : ℕ) × NeedsAtMost t c b l × (b ≤ blocks) × (places_of (Line c) l ≤ bytes)
    × ((sound : SoundMove) (reply : Reply) (next : Studio) → CarriesOut t (Line c) sound reply next →
    SumsAtMost next cs (blocks - b) (bytes - places_of (Line c) l))

-- the bytes of a block file of n samples: its head, two for each sample, and 12 for each frame of its two levels
abbrev pub block_file : ℕ → ℕ
block_file n = 16 + 2 * n + 12 * (div_ceil n 256 + div_ceil n 65536)

-- the project in which a script is run: 8,000 frames a second, blocks of at most 512 samples, 64 points
abbrev pub script_project : Studio
script_project = fresh 8000 512 64

-- A store in memory with 12 files, 24,576 bytes and 64 changing calls for each line, and 128 of each besides, has room
-- for the project and for lines with these sums, where each line may begin a block in vain.
pub record FitsStore (lines blocks bytes : ℕ) : Type 0 where
  pub files : 64 + lines + blocks ≤ 12 * lines + 128
  pub calls : 64 + 16 * lines + 4 * blocks ≤ 64 * lines + 128
  pub written : 256 + block_file 512 * (lines + blocks) + bytes ≤ 24576 * lines + 128

-- lines that such a store has room for
pub record HaveRoom (cs : List Command) : Type 0 where
  pub blocks : ℕ
  pub bytes : ℕ
  pub sums : SumsAtMost script_project cs blocks bytes
  pub fits : FitsStore (length cs) blocks bytes
