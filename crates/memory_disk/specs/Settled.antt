-- A disk with nothing pending, and one that is built file by file.
use Rattle.std.specs.Prelude.{◌≡◌, ◌≢◌, ℕ, ◌<◌, List, Option, None, slice_index}
use Rattle.disk_model.specs.Disk.{Files, SameElsewhere}
use Rattle.memory_disk.specs.History.{Step, IsImage, reads_of}

-- a stop leaves it as it reads
abbrev pub IsSettled : List Step → Type 0
IsSettled h = (c : Files) → IsImage h c → c ≡ reads_of h

-- new has the first i of these files as they are in this disk, and no others
pub record IsBuilt (numbers : List ℕ) (i : ℕ) (disk : Files) (new : List Step) : Type 0 where
  pub there : (k : ℕ) → k < i → reads_of new (slice_index numbers k) ≡ disk (slice_index numbers k)
  pub absent : (f : ℕ) → ((k : ℕ) → k < i → slice_index numbers k ≢ f) → reads_of new f ≡ None
  pub settled : IsSettled new

-- old with this at one file, and settled as it was
pub record SetsFile (file : ℕ) (content : Option (List ℕ)) (old new : List Step) : Type 0 where
  pub there : reads_of new file ≡ content
  pub others : SameElsewhere file (reads_of old) (reads_of new)
  pub settled : IsSettled old → IsSettled new
