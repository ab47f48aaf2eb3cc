-- The first numbers are listed, and there is room for the rest.
use Rattle.std.proofs.Common.{◌≡◌, ◌+◌, ◌-◌, ◌++◌, vec_len, vec_capacity}
use Rattle.pcm_base.specs.Arithmetic.{counted_from}
use Rattle.recorder_threads.proofs.track.list_numbers.Given as goal

abbrev pub invariant-numbers : goal.invariant-numbers
invariant-numbers l = record {
  items : l.numbers.items ≡ l.fn.numbers.items ++ counted_from (l.last - l.count + 1) l.i;
  len : vec_len l.numbers ≡ vec_len l.fn.numbers + l.i;
  capacity : vec_capacity l.numbers ≡ vec_capacity l.fn.numbers;
}
