-- The words of a line: one of a kind, several, or none.
use Rattle.std.specs.Prelude.{ℕ, List, [], ◌∷◌, ℤ, Bool, Option, Some, None, Result, Ok, Err}
use Rattle.pcm_base.specs.{declared.sound.Side.Side, declared.command.Command.Command}
use Rattle.script_text.specs.Words.{Words, End, Word, number_of, count_of, ramp_count_of, sample_of, gain_of, side_of}
use Rattle.script_text.specs.Words.{switch_of, name_of, option_map_to}

-- what the words of a line say, and the words after; or the column of the first word that is not of the kind that its
-- place wants, the column after the line where a word is missing
abbrev pub Form : Type 0 → Type 0
Form A = Words → Result (A × Words) ℕ

abbrev pub continued : {A B : Type 0} → Result (A × Words) ℕ → (A → Form B) → Result (B × Words) ℕ
continued (Err column) f = Err column
continued (Ok said) f = f said.0 said.1

-- a form, and then another
infixl 10 ◌>>=◌
abbrev pub ◌>>=◌ : {A B : Type 0} → Form A → (A → Form B) → Form B
(form >>= next) words = continued (form words) next

-- no word is needed to say this
abbrev pub says : {A : Type 0} → A → Form A
says x words = Ok (x, words)

-- a form says a function, and the words after it say what that is applied to
infixl 20 ◌<*>◌
abbrev pub ◌<*>◌ : {A B : Type 0} → Form (A → B) → Form A → Form B
form <*> kind = do
  f ← form
  x ← kind
  says (f x)

abbrev pub said_by : {A : Type 0} → Option A → ℕ → Words → Result (A × Words) ℕ
said_by None column rest = Err column
said_by (Some x) column rest = Ok (x, rest)

-- one word of a kind
abbrev pub word : {A : Type 0} → (List ℕ → Option A) → Form A
word kind (End column) = Err column
word kind (Word column text rest) = said_by (kind text) column rest

abbrev pub number : Form ℕ
number = word number_of

abbrev pub count : Form ℕ
count = word count_of

abbrev pub ramp_count : Form ℕ
ramp_count = word ramp_count_of

abbrev pub sample : Form ℤ
sample = word sample_of

abbrev pub gain : Form ℕ
gain = word gain_of

abbrev pub side : Form Side
side = word side_of

abbrev pub switch : Form Bool
switch = word switch_of

abbrev pub name : Form (List ℕ)
name = word name_of

-- a number, or none where the line ends
abbrev pub limit : Form (Option ℕ)
limit (End column) = Ok (None, End column)
limit (Word column text rest) = said_by (option_map_to Some (number_of text)) column rest

abbrev pub put_before : {A : Type 0} → Option A → ℕ → Result (List A × Words) ℕ → Result (List A × Words) ℕ
put_before None column said = Err column
put_before (Some x) column (Err later) = Err later
put_before (Some x) column (Ok said) = Ok (x ∷ said.0, said.1)

-- all the words to the end of the line, each of a kind
abbrev pub each_word : {A : Type 0} → (List ℕ → Option A) → Form (List A)
each_word kind (End column) = Ok ([], End column)
each_word kind (Word column text rest) = put_before (kind text) column (each_word kind rest)

-- the same of one or more
abbrev pub some_words : {A : Type 0} → (List ℕ → Option A) → Form (List A)
some_words kind (End column) = Err column
some_words kind (Word column text rest) = each_word kind (Word column text rest)

abbrev pub samples : Form (List ℤ)
samples = some_words sample_of

-- the line ends here, and this is its command
abbrev pub makes : Command → Form Command
makes c (End column) = Ok (c, End column)
makes c (Word column text rest) = Err column
