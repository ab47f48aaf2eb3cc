-- Counts, files and room while blocks are made.
use Rattle.editor_blocks.proofs.Common.{rules, ◌≡◌, inl, inr, ⊎_elim, refl, ℕ, ◌+◌, ◌≤◌, ◌<◌, Some, None, List, []}
use Rattle.editor_blocks.proofs.Common.{◌∷◌, length, Contains, arith, eqb_tells, cases_lt, Files, SameElsewhere}
use Rattle.editor_blocks.proofs.Common.{StaysStep, Changed, Room, IsWithin, together, Ghosts, changed_then_stays}
use Rattle.editor_blocks.proofs.Common.{size_of, Counts, NewBlock, SameOutside, AddsFree, made_room}
use Rattle.disk_model.specs.{Frames.Kept}
use Rattle.disk_model.proofs.Frames.{changed_kept}
use Rattle.block_ledger.specs.Counts.{SetsCount, one_more, one_less}

-- ---- the ledger

-- an id that is not there, held and dropped
pub free_one : (old mid new : Counts) (id : ℕ) → old id ≡ None → SetsCount old mid id (Some (one_more (old id)))
    → SetsCount mid new id (Some (one_less (mid id))) → AddsFree id 1 old new
free_one old mid new id gone hold drop = search (rules, eqb_tells)

pub free_none : (next : ℕ) (old : Counts) → AddsFree next 0 old old
free_none next old = search rules

pub free_more : (next n : ℕ) (old mid new : Counts) → AddsFree next n old mid → AddsFree (next + n) 1 mid new
    → AddsFree next (n + 1) old new
free_more next n old mid new one two = search (rules, cases_lt)

-- ---- the files

pub outside_more : (next n : ℕ) (d c : Files) → SameOutside next n d c → SameOutside next (n + 1) d c
outside_more next n d c same f apart = same f (⊎_elim (λ low. inl low) (λ high. inr (omega (arith, high))) apart)

pub outside_then : (next n id : ℕ) (d e c : Files) → id ≡ next + n → SameOutside next n d e → SameElsewhere id e c
    → SameOutside next (n + 1) d c
outside_then next n id d e c is one two f apart = search (rules, outside_more)

-- one block more asks for as much more
pub room_more : (z s n : ℕ) → s ≤ z
    → IsWithin (together (made_room z n) (record { files = 1; bytes = s; calls = 1 })) (made_room z (n + 1))
room_more z s n le = search rules

-- this many calls are counted
pub called : {D : Type 0} {disk : Ghosts D} {step : Files → Files → Type 0} {much : Room} {old new : D} (n : ℕ)
    → disk.change_calls new ≤ disk.change_calls old + n
    → Changed disk step much old new
    → Changed disk step (record { files = much.files; bytes = much.bytes; calls = n }) old new
called n few f = search rules

-- what a sync asks

-- reads after other calls
pub then_kept : {D : Type 0} {disk : Ghosts D} {step : Files → Files → Type 0} {much : Room} {old mid new : D}
    → Changed disk step much old mid → Kept disk mid new
    → Changed disk step much old new
then_kept {disk = disk} {much = much} {mid = mid} {new = new} f g =
    let nothing : Room = record { files = 0; bytes = 0; calls = 0 } in
    let reads : Changed disk StaysStep nothing mid new = changed_kept (λ c. refl) g in
    changed_then_stays {two = nothing} {much = much} (record {
      files = omega arith;
      bytes = omega arith;
      calls = omega arith;
    }) f reads

-- a block's file is no longer than that of the longest block
pub size_most : (n m : ℕ) → n ≤ m → size_of n ≤ size_of m
size_most n m le = omega (arith, le)

-- one of some
pub some_block : (bs : List NewBlock) → 0 < length bs → (b : NewBlock) × Contains bs b
some_block [] lt = absurd (omega (arith, lt))
some_block (b ∷ bs) lt = (b, (0, omega arith, refl))
