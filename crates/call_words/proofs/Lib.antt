mod NewOptions
mod OddLemmas
mod OptionLemmas
mod RowLemmas
mod TurnLemmas
mod WalkLemmas
