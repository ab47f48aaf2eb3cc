-- What `RamStore::image` leaves: which of the pending calls have reached the disk, by a choice and a generator.
use Rattle.std.specs.Prelude.{◌≡◌, ℕ, zero, suc, ◌+◌, ◌-◌, ◌*◌, ◌^◌, ◌==◌, if◌then◌else◌, Bool, true, false, Option}
use Rattle.std.specs.Prelude.{Some, None, List, [], ◌∷◌, ◌++◌, length, take, replicate, ◌/◌, ◌%◌}
use Rattle.disk_model.specs.Disk.{Files, bytes_of, written}
use Rattle.memory_disk.specs.History.{Step, Wrote, Synced, Removed, reads_of}

-- the next state of the generator, a linear congruential one modulo 2 ^ 64 with the multiplier and the increment of
-- Knuth's MMIX
unfoldable pub next_state : ℕ → ℕ
next_state x = (x * 6364136223846793005 + 1442695040888963407) % 2 ^ 64

-- whether what is drawn at this state has reached the disk: all has by choice 0, nothing by choice 1, and by any other
-- what draws 1 below 2
unfoldable pub takes : ℕ → ℕ → Bool
takes choice state = if choice == 0 then true else if choice == 1 then false else (state / 2 ^ 33) % 2 == 1

-- a file made so long at least, with 0 after its old end, where its length has reached the disk
abbrev pub grown : Bool → List ℕ → ℕ → List ℕ
grown true old end = old ++ replicate (end - length old) 0
grown false old end = old

-- with those of these bytes that lie in it, where they have
abbrev pub laid : Bool → List ℕ → ℕ → List ℕ → List ℕ
laid true old at bytes = take (length old) (written old at bytes)
laid false old at bytes = old

-- what a write leaves of a file; an absent one is made by either part
abbrev pub left_by_write : Bool → Bool → Option (List ℕ) → ℕ → List ℕ → Option (List ℕ)
left_by_write true length_taken old at bytes =
    Some (laid true (grown length_taken (bytes_of old) (at + length bytes)) at bytes)
left_by_write false true old at bytes = Some (grown true (bytes_of old) (at + length bytes))
left_by_write false false old at bytes = old

-- what a removal leaves of it
abbrev pub left_by_removal : Bool → Option (List ℕ) → Option (List ℕ)
left_by_removal true old = None
left_by_removal false old = old

-- a file as a stop leaves it, and the generator's state after the draws for it
pub record Left : Type 0 where
  pub content : Option (List ℕ)
  pub state : ℕ

-- a pending write has two draws, of its bytes and then of its length
abbrev pub after_write : ℕ → ℕ → List ℕ → Left → Left
after_write choice at bytes left = record {
  content = left_by_write (takes choice (next_state left.state))
      (takes choice (next_state (next_state left.state))) left.content at bytes;
  state = next_state (next_state left.state);
}

-- and a pending removal has one
abbrev pub after_removal : ℕ → Left → Left
after_removal choice left = record {
  content = left_by_removal (takes choice (next_state left.state)) left.content;
  state = next_state left.state;
}

-- the file as a stop after these calls leaves it, with draws from this state on; what was made before the file's last
-- sync is not pending, and has none
abbrev pub left_of : ℕ → ℕ → List Step → ℕ → Left
left_of choice f [] start = record { content = None; state = start }
left_of choice f (Wrote file at bytes ∷ earlier) start =
    if f == file then after_write choice at bytes (left_of choice f earlier start) else left_of choice f earlier start
left_of choice f (Synced file ∷ earlier) start =
    if f == file then record { content = reads_of earlier f; state = start } else left_of choice f earlier start
left_of choice f (Removed file ∷ earlier) start =
    if f == file then after_removal choice (left_of choice f earlier start) else left_of choice f earlier start

-- the state at which the draws for a file begin: the choice, after the draws for all files below
unfoldable pub state_at : ℕ → List Step → ℕ → ℕ
state_at choice h zero = choice
state_at choice h (suc f) = (left_of choice f h (state_at choice h f)).state

-- the disk that the choice leaves
abbrev pub image_of : ℕ → List Step → Files
image_of choice h = λ f. (left_of choice f h (state_at choice h f)).content

-- each file as it read at its last sync, and absent where it had none: nothing of what is pending
abbrev pub synced_of : List Step → Files
synced_of [] = λ _. None
synced_of (Wrote file at bytes ∷ earlier) = synced_of earlier
synced_of (Synced file ∷ earlier) = λ f. if f == file then reads_of earlier f else synced_of earlier f
synced_of (Removed file ∷ earlier) = synced_of earlier

-- the file has this content and the generator this state, where the draws began at that one
pub record IsLeft (choice file : ℕ) (h : List Step) (start : ℕ) (content : Option (List ℕ)) (state : ℕ) : Type 0 where
  pub is : left_of choice file h start ≡ record { content = content; state = state }

-- no draw is made for the file, and it is absent
abbrev pub IsUnnamed : List Step → ℕ → Type 0
IsUnnamed h f = (choice start : ℕ) → left_of choice f h start ≡ record { content = None; state = start }

-- it has what is read, where no call of it is pending
abbrev pub IsAtSync : ℕ → List Step → Type 0
IsAtSync file h = (choice start : ℕ) → IsLeft choice file h start (reads_of h file) start
