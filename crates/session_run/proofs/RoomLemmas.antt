-- What is left of the room of a disk in memory, deed by deed.
use Rattle.session_run.proofs.Common.{◌≡◌, ◌⊎◌, inl, inr, ⊎_elim, refl, sym, ap, ◌∙◌, subst, ℕ, ◌+◌, ◌-◌, ◌*◌, ◌≤◌}
use Rattle.session_run.proofs.Common.{IsSome, Option, Some, None, arith, IsSpent, Room, StaysRoom, Files, asked, Ghosts}
use Rattle.session_run.proofs.Common.{IsFresh, Core, IsHeld, IsStudio, IsTooMuch, Sum, nothing_needed, faults_of}
use Rattle.session_run.proofs.Common.{tried_project}
use Rattle.disk_model.specs.Room.{IsWithin, together}
use Rattle.disk_model.specs.{Frames.Changed}
use Rattle.memory_project.specs.Fresh.{made_room, room_of_project}
use Rattle.session_run.specs.Tries.{IsBeyond}
use Rattle.session_run.proofs.MissingLemmas.{missing, missing_most}
use Rattle.pcm_base.specs.Studio as model

-- ---- sums

-- where this is too much, more is
pub much_more : (a b : Sum) → a.calls ≤ b.calls → a.blocks ≤ b.blocks → a.journal ≤ b.journal
    → IsTooMuch tried_project a → IsTooMuch tried_project b
much_more a b calls blocks journal (inl x) = inl (omega (arith, blocks, x))
much_more a b calls blocks journal (inr (inl x)) = inr (inl (omega (arith, blocks, journal, x)))
much_more a b calls blocks journal (inr (inr x)) = inr (inr (omega (arith, calls, blocks, x)))

-- The room of `try`, counted from what was asked of a fresh project: all but that is left.
pub record IsRoom (from room : Room) : Type 0 where
  pub few : IsWithin from (made_room 10)
  pub files : from.files + 65535 ≤ room.files
  pub bytes : from.bytes + 67108782 ≤ room.bytes
  pub calls : from.calls + 1048566 ≤ room.calls

-- No more than this was asked since, where this many files were removed; and the next block may be begun in vain.
pub record HasAskedFor (from now : Room) (sum : Sum) (gone vain : ℕ) : Type 0 where
  pub files : now.files ≤ from.files + sum.blocks + vain
  pub bytes : now.bytes ≤ from.bytes + 48 * sum.blocks + 48 * vain + sum.journal
  pub calls : now.calls ≤ from.calls + 16 * sum.calls + 2 * sum.blocks + 2 * gone

-- room that is spent is less than is needed
pub too_much : (from room now : Room) (sum : Sum) (gone vain : ℕ) → IsRoom from room
    → HasAskedFor from now sum gone vain → gone ≤ sum.blocks → vain ≤ 1 → IsSpent (Some room) now
    → IsTooMuch tried_project sum
too_much from room now sum gone vain is h few one (inl (inl x)) =
    let a = is.files in let b = h.files in inl (omega (arith, a, b, one, x))
too_much from room now sum gone vain is h few one (inl (inr x)) =
    let a = is.few.files in let b = h.files in inl (omega (arith, a, b, one, x))
too_much from room now sum gone vain is h few one (inr (inl (inl x))) =
    let a = is.bytes in let b = h.bytes in inr (inl (omega (arith, a, b, one, x)))
too_much from room now sum gone vain is h few one (inr (inl (inr x))) =
    let a = is.few.bytes in let b = h.bytes in inr (inl (omega (arith, a, b, one, x)))
too_much from room now sum gone vain is h few one (inr (inr (inl x))) =
    let a = is.calls in let b = h.calls in inr (inr (omega (arith, a, b, few, x)))
too_much from room now sum gone vain is h few one (inr (inr (inr x))) =
    let a = is.few.calls in let b = h.calls in inr (inr (omega (arith, a, b, few, x)))

-- ---- a studio on such a disk

-- A studio on a disk that has counted no fault, of which so much was asked since.
pub record IsFine {D : Type 0} (disk : Ghosts D) (from : Room) (s : Core D) (sum : Sum) : Type 0 where
  pub studio : IsStudio disk s
  pub held : IsHeld disk s
  pub going : s.stopped ≡ None
  pub reads : disk.read_fault_count s.store ≡ 0
  pub changes : disk.change_fault_count s.store ≡ 0
  pub room : Room
  pub is : disk.room s.store ≡ Some room
  pub large : IsRoom from room
  pub gone : ℕ
  pub has_asked : HasAskedFor from (asked disk s.store) sum gone 0
  pub lost : gone ≤ missing s.counts 16 (s.next_block - 16)
  pub given : s.next_block ≤ 16 + sum.blocks
  pub size : s.block_size ≡ 4

-- a file that was removed was a block's that was made
pub gone_few : {D : Type 0} (disk : Ghosts D) (s : Core D) (sum : Sum) (gone : ℕ)
    → gone ≤ missing s.counts 16 (s.next_block - 16) → s.next_block ≤ 16 + sum.blocks → gone ≤ sum.blocks
gone_few disk s sum gone lost given =
    let most = missing_most s.counts 16 (s.next_block - 16) in omega (arith, lost, given, most)

-- more room is as large
pub room_on : (from room : Room) (now : Option Room) → IsRoom from room → StaysRoom (Some room) now
    → (more : Room) × (now ≡ Some more) × IsRoom from more
room_on from room None is stays = absurd stays
room_on from room (Some more) is stays = (
  more,
  refl,
  record {
    few = is.few;
    files = let a = is.files in let b = stays.files in omega (arith, a, b);
    bytes = let a = is.bytes in let b = stays.bytes in omega (arith, a, b);
    calls = let a = is.calls in let b = stays.calls in omega (arith, a, b);
  },
)

-- the fresh project is one
pub fresh_fine : {D : Type 0} (disk : Ghosts D) (start : Core D) → IsFresh disk tried_project start
    → IsFine disk (asked disk start.store) start nothing_needed
fresh_fine {D} disk start fresh =
    let next : start.next_block ≡ 16 = ap (λ (z : model.Studio). z.next_block) fresh.is in record {
      studio = fresh.studio;
      held = fresh.held;
      going = ap (λ (z : model.Studio). z.stopped) fresh.is;
      reads = fresh.room.reads;
      changes = fresh.room.changes;
      room = fresh.room.room;
      is = fresh.room.is;
      large = record {
        few = fresh.asked_few;
        files = fresh.room.files.within;
        bytes = fresh.room.bytes.within;
        calls = fresh.room.calls.within;
      };
      gone = 0;
      has_asked = record { files = omega arith; bytes = omega arith; calls = omega arith };
      lost = omega arith;
      given = omega (arith, next);
      size = ap (λ (z : model.Studio). z.block_size) fresh.is;
    }

-- ---- whatever the calls of a run were

beyond : (from room now much : Room) → IsRoom from room → now.files ≤ from.files + much.files
    → now.bytes ≤ from.bytes + much.bytes → now.calls ≤ from.calls + much.calls → IsSpent (Some room) now
    → IsBeyond (room_of_project tried_project) (together (made_room 10) much)
beyond from room now much is files bytes calls (inl (inl x)) = let a = is.files in inl (omega (arith, a, files, x))
beyond from room now much is files bytes calls (inl (inr x)) = let a = is.few.files in inl (omega (arith, a, files, x))
beyond from room now much is files bytes calls (inr (inl (inl x))) =
    let a = is.bytes in inr (inl (omega (arith, a, bytes, x)))
beyond from room now much is files bytes calls (inr (inl (inr x))) =
    let a = is.few.bytes in inr (inl (omega (arith, a, bytes, x)))
beyond from room now much is files bytes calls (inr (inr (inl x))) =
    let a = is.calls in inr (inr (omega (arith, a, calls, x)))
beyond from room now much is files bytes calls (inr (inr (inr x))) =
    let a = is.few.calls in inr (inr (omega (arith, a, calls, x)))

-- no call failed, or they ask more than the room
pub spent_by : {D : Type 0} (disk : Ghosts D) (start final : Core D) (step : Files → Files → Type 0) (much : Room)
    → IsFresh disk tried_project start → Changed disk step much start.store final.store
    → (faults_of disk final ≡ 0) ⊎ IsBeyond (room_of_project tried_project) (together (made_room 10) much)
spent_by disk start final step much fresh changed =
    let fine = fresh_fine disk start fresh in ⊎_elim
    (λ (same : disk.change_fault_count final.store ≡ disk.change_fault_count start.store).
    let changes : disk.change_fault_count final.store ≡ 0 = same ∙ fine.changes in
    let reads : disk.read_fault_count final.store ≡ 0 =
    changed.unfailing (subst (λ (r : Option Room). IsSome r) (sym fine.is) refl) ∙ fine.reads in
    inl (omega (arith, reads, changes)))
    (λ (spent : IsSpent (disk.room start.store) (asked disk final.store)).
    inr (beyond (asked disk start.store) fine.room (asked disk final.store) much fine.large
    (changed.files fresh.held.tells) changed.bytes changed.calls
    (subst (λ (r : Option Room). IsSpent r (asked disk final.store)) fine.is spent)))
    changed.spent
