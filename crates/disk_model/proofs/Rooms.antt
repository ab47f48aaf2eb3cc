-- What is asked of a store in turn, and whether its room is spent.
use Rattle.std.proofs.Common.{◌≡◌, inl, inr, ⊎_elim, ℕ, ◌≤◌, Option, None, Some, IsSome, sym, subst, arith}
use Rattle.disk_model.specs.Room.{Room, IsOver, IsSpent, IsWithin, StaysRoom}

pub within_refl : (a : Room) → IsWithin a a
within_refl a = record { files = omega arith; bytes = omega arith; calls = omega arith }

pub within_trans : (a b c : Room) → IsWithin a b → IsWithin b c → IsWithin a c
within_trans a b c f g = record {
  files = omega (arith, f.files, g.files);
  bytes = omega (arith, f.bytes, g.bytes);
  calls = omega (arith, f.calls, g.calls);
}

pub stays_refl : (a : Option Room) → StaysRoom a a
stays_refl None = tt
stays_refl (Some a) = within_refl a

pub stays_same : (a b : Option Room) → b ≡ a → StaysRoom a b
stays_same a b same = subst (StaysRoom a) (sym same) (stays_refl a)

pub stays_trans : (a b c : Option Room) → StaysRoom a b → StaysRoom b c → StaysRoom a c
stays_trans None b c f g = tt
stays_trans (Some a) None c f g = absurd f
stays_trans (Some a) (Some b) None f g = absurd g
stays_trans (Some a) (Some b) (Some c) f g = within_trans a b c f g

pub stays_some : (a b : Option Room) → StaysRoom a b → IsSome a → IsSome b
stays_some None b stays some = cc
stays_some (Some a) None stays some = absurd stays
stays_some (Some a) (Some b) stays some = some

over_on : (less more before now : ℕ) → less ≤ more → before ≤ now → IsOver more before → IsOver less now
over_on less more before now le later (inl over) = inl (omega (arith, over))
over_on less more before now le later (inr end) = inr (omega (arith, end))

-- what is spent of as much room, or when less was asked, is spent
pub spent_on : (a b : Option Room) (before now : Room) → StaysRoom a b → IsWithin before now → IsSpent b before
    → IsSpent a now
spent_on None b before now stays later spent = tt
spent_on (Some a) None before now stays later spent = absurd stays
spent_on (Some a) (Some b) before now stays later spent = ⊎_elim
    (λ files. inl (over_on a.files b.files before.files now.files stays.files later.files files))
    (⊎_elim
    (λ bytes. inr (inl (over_on a.bytes b.bytes before.bytes now.bytes stays.bytes later.bytes bytes)))
    (λ calls. inr (inr (over_on a.calls b.calls before.calls now.calls stays.calls later.calls calls))))
    spent
