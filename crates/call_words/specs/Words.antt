-- The words of the program, by their grammar.
use Rattle.std.specs.Prelude.{ℕ, ◌==◌, ◌%◌, Bool, true, false, List, [], ◌∷◌, Option, Some, None, if◌then◌else◌}
use Rattle.std.specs.Prelude.{bytes_eq, codes, option_and_then, nat_le}
use Rattle.pcm_base.specs.declared.limits.TheConstants.{MAX_BLOCK_SAMPLES, MAX_DEPTH}
use Rattle.script_text.specs.Words.{number_up_to}
use Rattle.call_words.specs.{Texts.Text, Options.Given, Options.options_read, declared.asked.Words.Words}
use Rattle.call_words.specs.declared.asked.Words.TheVariants as words

abbrev pub at_least : ℕ → Option ℕ → Option ℕ
at_least least None = None
at_least least (Some n) = if nat_le least n then Some n else None

-- the number that a text writes, of decimal digits alone, within bounds
abbrev pub within : ℕ → ℕ → Text → Option ℕ
within least most text = at_least least (number_up_to most text)

-- the number of a text, or the default where none was given
abbrev pub number_or : ℕ → ℕ → ℕ → Option Text → Option ℕ
number_or default least most None = Some default
number_or default least most (Some text) = within least most text

abbrev pub even : ℕ → Option ℕ
even n = if n % 2 == 0 then Some n else None

-- a new project by its options: the rate, the block size, the depth
abbrev pub new_of : Given → Option Words
new_of g = option_and_then (λ rate. option_and_then (λ block. option_and_then (λ depth.
    Some (words.New (record { rate = rate; block_size = block; depth = depth })))
    (number_or 256 1 MAX_DEPTH g.depth))
    (option_and_then even (number_or MAX_BLOCK_SAMPLES 4 MAX_BLOCK_SAMPLES g.block)))
    (number_or 44100 1 4294967295 g.rate)

-- `new` and its options, each at most once, in any order
abbrev pub new_words : List Text → Option Words
new_words words = option_and_then new_of (options_read words)

-- after `run`: flags, each at most once, in any order
abbrev pub run_flag : (Bool → Bool → Option Words) → Text → Bool → Bool → Option Words
run_flag next word records plays =
    if bytes_eq word (codes "--record") then (if records then None else next true plays)
    else if bytes_eq word (codes "--play") then (if plays then None else next records true)
    else None

abbrev pub run_words : List Text → Bool → Bool → Option Words
run_words [] records plays = Some (words.Run records plays)
run_words (word ∷ rest) records plays = run_flag (run_words rest) word records plays

-- after `gen`: the number of the script, and how many lines it has
abbrev pub gen_of : Option ℕ → Option ℕ → Option Words
gen_of (Some number) (Some lines) = Some (words.Gen number lines)
gen_of _ _ = None

abbrev pub gen_words : List Text → Option Words
gen_words (number ∷ lines ∷ []) = gen_of (number_up_to 18446744073709551615 number) (within 2 4096 lines)
gen_words _ = None

-- a command with nothing after it
abbrev pub alone : Words → List Text → Option Words
alone asked [] = Some asked
alone asked (word ∷ rest) = None

abbrev pub other_words : Text → List Text → Option Words
other_words command rest =
    if bytes_eq command (codes "run") then run_words rest false false
    else if bytes_eq command (codes "try") then alone words.Try rest
    else if bytes_eq command (codes "list") then alone words.List rest
    else if bytes_eq command (codes "check") then alone words.Check rest
    else if bytes_eq command (codes "gen") then gen_words rest
    else None

abbrev pub command_words : Text → List Text → Option Words
command_words command rest =
    if bytes_eq command (codes "new") then new_words (command ∷ rest) else other_words command rest

-- what the words ask for, of which the first is the name of the program
abbrev pub words_of : List Text → Option Words
words_of (name ∷ command ∷ rest) = command_words command rest
words_of _ = None

-- the command is `new`
abbrev pub is_new : List Text → Bool
is_new (name ∷ command ∷ rest) = bytes_eq command (codes "new")
is_new _ = false
