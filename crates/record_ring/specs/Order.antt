-- In which order chunks are sent.
use Rattle.std.specs.Prelude.{◌≡◌, List, length}
use Rattle.pcm_base.specs.{Parts.Part, Recordings.IsOpen}

-- a chunk may follow these where its number is how many they are, and no end mark is among them
abbrev pub Follows : List Part → Part → Type 0
Follows before chunk = (chunk.number ≡ length before) × IsOpen before
