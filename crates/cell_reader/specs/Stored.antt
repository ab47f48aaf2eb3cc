-- Samples as they stand in the files of blocks, whether or not a file is as it has to be.
use Rattle.std.specs.{Prelude.ℕ, Prelude.◌+◌, Prelude.◌*◌, Prelude.ℤ, Prelude.pos, Int.w16, Int.cast_signed}
use Rattle.disk_model.specs.Disk.{Files, bytes_of}
use Rattle.pcm_base.specs.Pieces.{Sources}
use Rattle.sample_block.specs.Faults.{number_at}

-- those of each block by their places, after the 16 bytes of the header; 0 past the end of its file
abbrev pub stored_on : Files → ℕ → ℕ → ℤ
stored_on files id i = cast_signed w16 (number_at (bytes_of (files id)) (16 + 2 * i) 2)

-- the blocks of a disk as where samples come from, as they stand
abbrev pub stored_of : Files → Sources
stored_of files = record { block = stored_on files; given = λ _. pos 0 }
