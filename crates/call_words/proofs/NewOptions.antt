-- The options of a new project as rules of clap, and rows that tell them.
use Rattle.std.proofs.Common.{◌≡◌, true, false, refl, ap, List, [], ◌∷◌, Option, Some, None, codes, true≢false, is_some}
use Rattle.std.specs.{Option.option_map, List.find, Str.bytes_eq}
use Rattle.clap.specs.Walk.{Held, Row, Rule, Waiting, Walk, reading_by}
use Rattle.clap.specs.{Kinds.Kinds, Kinds.or_else, Simple.Shape, Simple.built, Faults.is_simple_and_free}
use Rattle.clap.specs.{declared.parser.matches.ValueSource.TheVariants.CommandLine}
use Rattle.clap.specs.{declared.error.kind.ErrorKind.ErrorKind}
use Rattle.call_words.specs.Options.{Key, Rate, Block, Depth, Given}
use Rattle.call_words.specs.{Command.new_command, Command.own, Texts.Text}

abbrev pub shape : Shape
shape = (built new_command).top

abbrev pub rules : List Rule
rules = shape.rules

pub is_plain : is_simple_and_free new_command ≡ true
is_plain = refl

-- where the walk stands, before any `--`
abbrev pub at : Held → Waiting → Walk
at h waits = record { held = h; waiting = waits; position = 1; is_trailing = false; stopped = None }

pub or_else_none : (ks : Kinds) → or_else ks [] ≡ ks
or_else_none [] = refl
or_else_none (k ∷ ks) = refl

pub some≢none : {X : Type 0} (x : X) → Some x ≡ None → ⊥
some≢none x e = true≢false (ap (λ o. is_some o) e)

abbrev pub Faulty : Kinds → Type 0
Faulty ks = (k : ErrorKind) × (rest : Kinds) × (ks ≡ k ∷ rest)

pub faulty_first : (ks next : Kinds) → Faulty ks → Faulty (or_else ks next)
faulty_first ks next f = (f.0, f.1, rw f.2 refl)

pub faulty_next : (ks next : Kinds) → ks ≡ [] → Faulty next → Faulty (or_else ks next)
faulty_next ks next e f = (f.0, f.1, rw e f.2)

abbrev pub name_of : Key → Text
name_of Rate = codes "rate"
name_of Block = codes "block"
name_of Depth = codes "depth"

abbrev pub first_rule : List Rule → Rule
first_rule [] = own []
first_rule (r ∷ rs) = r

abbrev pub rest_rules : List Rule → List Rule
rest_rules [] = []
rest_rules (r ∷ rs) = rs

abbrev pub rule_of : Key → Rule
rule_of Rate = first_rule rules
rule_of Block = first_rule (rest_rules rules)
rule_of Depth = first_rule (rest_rules (rest_rules rules))

abbrev pub row_of : Key → Text → Row
row_of key v = record {
  id = name_of key;
  values = v ∷ [];
  count = None;
  source = Some CommandLine;
  reading = reading_by (rule_of key);
}

abbrev pub given_at : Key → Given → Option Text
given_at Rate g = g.rate
given_at Block g = g.block
given_at Depth g = g.depth

-- the rows hold what was given, once for each option
abbrev pub Tells : List Row → Given → Type 0
Tells rows g = (key : Key) → find (λ r. bytes_eq r.id (name_of key)) rows ≡ option_map (row_of key) (given_at key g)
