-- Which entries of a folder may not be on the disk yet.
use Rattle.std.specs.Prelude.{ℕ, Bool, zero, suc}

-- those of file 0 and those of all others, each as one
abbrev pub waits_of : ℕ → Bool → Bool → Bool
waits_of zero first others = first
waits_of (suc n) first others = others
