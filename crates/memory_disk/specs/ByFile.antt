-- The calls of one file among others.
use Rattle.std.specs.{Prelude.ℕ, Prelude.Bool, Prelude.◌==◌, Prelude.List, List.filter, List.Sorted.IsNonDecreasingBy}
use Rattle.memory_disk.specs.declared.call.Call.{Call}

abbrev pub is_of : ℕ → Call → Bool
is_of file call = call.file == file

-- in order of making
abbrev pub calls_of : ℕ → List Call → List Call
calls_of file calls = filter (is_of file) calls

-- the files of the calls do not fall
abbrev pub IsByFile : List Call → Type 0
IsByFile calls = IsNonDecreasingBy (λ (call : Call). call.file) calls
