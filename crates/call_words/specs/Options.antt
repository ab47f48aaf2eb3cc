-- The options of a new project, as the words after `new` give them.
use Rattle.std.specs.Prelude.{List, [], ◌∷◌, Option, Some, None, is_some, if◌then◌else◌, bytes_eq, codes}
use Rattle.std.specs.Prelude.{option_and_then, option_map, drop}
use Rattle.std.specs.List.{list_any}
use Rattle.call_words.specs.{Texts.Text, Texts.is_odd, Texts.option_in, declared.options.Given.Given as Texts}

-- the options
pub data Key : Type 0 where
  Rate : Key
  Block : Key
  Depth : Key

-- what was given for each
pub record Given : Type 0 where
  pub rate : Option Text
  pub block : Option Text
  pub depth : Option Text

abbrev pub none_given : Given
none_given = record { rate = None; block = None; depth = None }

abbrev pub key_of : Text → Option Key
key_of name =
    if bytes_eq (codes "rate") name then Some Rate
    else if bytes_eq (codes "block") name then Some Block
    else if bytes_eq (codes "depth") name then Some Depth
    else None

-- an option may be given once
abbrev pub put_value : Option Text → Text → Option (Option Text)
put_value None value = Some (Some value)
put_value (Some old) value = None

abbrev pub put_rate : Given → Option (Option Text) → Option Given
put_rate g None = None
put_rate g (Some value) = Some (record g { rate = value })

abbrev pub put_block : Given → Option (Option Text) → Option Given
put_block g None = None
put_block g (Some value) = Some (record g { block = value })

abbrev pub put_depth : Given → Option (Option Text) → Option Given
put_depth g None = None
put_depth g (Some value) = Some (record g { depth = value })

abbrev pub put : Key → Text → Given → Option Given
put Rate value g = put_rate g (put_value g.rate value)
put Block value g = put_block g (put_value g.block value)
put Depth value g = put_depth g (put_value g.depth value)

-- what the words after an option's value come to, where the value may be put
abbrev pub put_then : (Option Key → Given → Option Given) → Key → Text → Given → Option Given
put_then next key value g = option_and_then (next None) (put key value g)

-- `--NAME=VALUE`, or `--NAME` with its value in the next word
abbrev pub key_met : (Option Key → Given → Option Given) → Option Key → Option Text → Given → Option Given
key_met next None value g = None
key_met next (Some key) (Some value) g = put_then next key value g
key_met next (Some key) None g = next (Some key) g

abbrev pub option_met : (Option Key → Given → Option Given) → Option (Text × Option Text) → Given → Option Given
option_met next None g = None
option_met next (Some p) g = key_met next (key_of p.0) p.1 g

-- the word that an option waits for is no option
abbrev pub value_met : (Option Key → Given → Option Given) → Key → Text → Given → Option Given
value_met next key word g = if is_some (option_in word) then None else put_then next key word g

abbrev pub word_met : (Option Key → Given → Option Given) → Text → Option Key → Given → Option Given
word_met next word None g = option_met next (option_in word) g
word_met next word (Some key) g = value_met next key word g

abbrev pub none_waits : Option Key → Given → Option Given
none_waits None g = Some g
none_waits (Some key) g = None

-- what the words come to, with the option that waits for its value and what was given before
abbrev pub options_of : List Text → Option Key → Given → Option Given
options_of [] waits g = none_waits waits g
options_of (word ∷ rest) waits g = word_met (options_of rest) word waits g

-- what the words after the command give
abbrev pub options_read : List Text → Option Given
options_read words = if list_any is_odd words then None else options_of (drop 1 words) None none_given

abbrev pub given_in : Texts → Given
given_in g = record {
  rate = option_map (λ s. s.now) g.rate;
  block = option_map (λ s. s.now) g.block;
  depth = option_map (λ s. s.now) g.depth;
}
