pub mod CounterLemmas
