-- How much may be asked of a store before it may count a fault.
use Rattle.std.specs.Prelude.{◌⊎◌, ℕ, ◌+◌, ◌-◌, ◌^◌, ◌<◌, ◌≤◌, min, max, Option, Some, None}

-- writes that meet an absent file, bytes that are written, changing calls
pub record Room : Type 0 where
  pub files : ℕ
  pub bytes : ℕ
  pub calls : ℕ

-- a count so much later; a u64 counts no further than to its end
abbrev pub raised : ℕ → ℕ → ℕ
raised n more = max n (min (n + more) (2 ^ 64 - 1))

-- one more; a u64 counts no further than to its end
abbrev pub counted : ℕ → ℕ
counted n = min (n + 1) (2 ^ 64 - 1)

-- one more where a write meets an absent file
abbrev pub met : {A : Type 0} → Option A → ℕ → ℕ
met None n = raised n 1
met (Some there) n = n

-- more was asked than there is room for; a count at its type's end cannot tell
abbrev pub IsOver : ℕ → ℕ → Type 0
IsOver room asked = (room < asked) ⊎ (2 ^ 64 - 1 ≤ asked)

-- the same of one of the three; a store without room may always fail
abbrev pub IsSpent : Option Room → Room → Type 0
IsSpent None asked = Unit {0}
IsSpent (Some room) asked =
    IsOver room.files asked.files ⊎ (IsOver room.bytes asked.bytes ⊎ IsOver room.calls asked.calls)

-- the second is as much as the first
pub record IsWithin (less more : Room) : Type 0 where
  pub files : less.files ≤ more.files
  pub bytes : less.bytes ≤ more.bytes
  pub calls : less.calls ≤ more.calls

-- there is as much room as before
abbrev pub StaysRoom : Option Room → Option Room → Type 0
StaysRoom None now = Unit {0}
StaysRoom (Some before) None = ⊥
StaysRoom (Some before) (Some now) = IsWithin before now

-- how many files a write makes where this is there
abbrev pub files_made : {A : Type 0} → Option A → ℕ
files_made None = 1
files_made (Some there) = 0

-- both in turn
abbrev pub together : Room → Room → Room
together a b = record { files = a.files + b.files; bytes = a.bytes + b.bytes; calls = a.calls + b.calls }
