use Rattle.std.proofs.Common.{◌≡◌, map, string_bytes, drop, false}
use Rattle.call_words.specs.Words.{run_words}
use Rattle.call_words.proofs.reading.read_run.Given as goal

-- what is left says the same after the flags so far
abbrev pub invariant-loop-word : goal.invariant-loop-word
invariant-loop-word l = run_words (map string_bytes l.words) false false
    ≡ run_words (map string_bytes (drop l.word-index l.words)) l.records l.plays
