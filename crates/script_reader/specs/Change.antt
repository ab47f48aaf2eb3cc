-- Values before something and after it.

-- a value before, and what it is now
pub record Change (A : Type 0) : Type 0 where
  pub before : A
  pub now : A

abbrev pub change : {A : Type 0} → A → A → Change A
change before now = record { before = before; now = now }
