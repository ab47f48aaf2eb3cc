-- What clap makes of the options of a new project, beside the grammar.
use Rattle.std.proofs.Common.{◌≡◌, ◌∙◌, Bool, cond, true, false, refl, sym, ap, ap₂, subst, List, [], ◌∷◌, Option, Some}
use Rattle.std.proofs.Common.{None, codes, true≢false, inl, inr, is_some, fold, ◌||◌}
use Rattle.std.specs.{Option.option_map, Prelude.option_and_then, Prelude.slice_get, Prelude.drop, List.list_any}
use Rattle.clap.specs.Walk.{Held, Row, Rule, Walk, idle, has_row, walked, settled, finished, first_of, nothing_held}
use Rattle.clap.specs.Faults.{settle_fault, walk_fault, fault_of, defaults_fault, entered_fault, check_fault}
use Rattle.clap.specs.{Walk.with_default, Kinds.HasKind, Kinds.IsAmong, Kinds.Kinds, Kinds.or_else, Values.kind_of}
use Rattle.clap.specs.{declared.error.Error.Error, Simple.App, Simple.built, Simple.entered, Simple.matches_of}
use Rattle.call_words.specs.Options.{Key, Rate, Block, Depth, Given, none_given, options_of, options_read}
use Rattle.call_words.specs.{Command.new_command, Texts.Text, Texts.is_odd}
use Rattle.call_words.proofs.NewOptions.{shape, rules, at, Faulty, faulty_first, name_of, rule_of, row_of, given_at}
use Rattle.call_words.proofs.NewOptions.{Tells}
use Rattle.call_words.proofs.WalkLemmas.{Result, rest_odd, run, Bad, Late, Done}
use Rattle.clap.specs.declared.error.kind.ErrorKind.TheVariants as kind

or_true : (b : Bool) → (b || true) ≡ true
or_true true = refl
or_true false = refl

default_step : (rows : List Row) (a : Rule) (rest : List Rule) → a.defaults ≡ []
    → defaults_fault rows (a ∷ rest) ≡ defaults_fault (with_default rows a) rest
unfolding defaults_fault
default_step rows a rest e = rw e (rw (or_true (has_row a.id rows)) refl)

defaults_none : (rows : List Row) → defaults_fault rows rules ≡ []
unfolding defaults_fault
defaults_none rows = default_step rows (rule_of Rate) (rule_of Block ∷ rule_of Depth ∷ []) refl
    ∙ default_step (with_default rows (rule_of Rate)) (rule_of Block) (rule_of Depth ∷ []) refl
    ∙ default_step (with_default (with_default rows (rule_of Rate)) (rule_of Block)) (rule_of Depth) [] refl

default_kept : (rows : List Row) (a : Rule) → a.defaults ≡ [] → with_default rows a ≡ rows
default_kept rows a e = rw e (go (has_row a.id rows))
  where
    go : (b : Bool) → cond b rows rows ≡ rows
    go true = refl
    go false = refl

finished_is : (h : Held) → finished rules h ≡ (settled rules h).rows
finished_is h =
    default_kept _ (rule_of Depth) refl ∙ default_kept _ (rule_of Block) refl ∙ default_kept _ (rule_of Rate) refl

-- what clap tests after the walk
abbrev pub after : Walk → Kinds
after W = or_else (entered_fault (built new_command) W.stopped) (or_else (settle_fault rules false W.held)
    (or_else (defaults_fault (settled rules W.held).rows rules)
    (check_fault shape (finished rules W.held) (is_some (entered (built new_command) W.stopped)))))

fault_is : (words : List Text)
    → fault_of new_command words ≡ or_else (walk_fault shape [] (at nothing_held idle) (drop 1 words))
    (after (fold (walked rules []) (at nothing_held idle) (drop 1 words)))
fault_is words = refl

matches_are : (words : List Text)
    → matches_of new_command words ≡ finished rules (fold (walked rules []) (at nothing_held idle) (drop 1 words)).held
matches_are words = refl

-- what clap makes of the words, beside the grammar
pub data Agrees (words : List Text) : Option Given → Type 0 where
  Reads : (g : Given) → fault_of new_command words ≡ [] → Tells (matches_of new_command words) g → Agrees words (Some g)
  Fails : Faulty (fault_of new_command words) → Agrees words None

agrees_by : (words : List Text) (o : Option Given) → Result (drop 1 words) (at nothing_held idle) o → Agrees words o
agrees_by words _ (Bad f) = Fails (rw (fault_is words) (faulty_first _ _ f))
agrees_by words _ (Late h waits clear ends f) =
    Fails (subst Faulty (sym (fault_is words ∙ ap₂ or_else clear (ap after ends))) (faulty_first _ _ f))
agrees_by words _ (Done h g clear ends calm tells) = Reads g
    (fault_is words ∙ ap₂ or_else clear (ap after ends) ∙ rw calm (rw (defaults_none (settled rules h).rows) refl))
    (subst (λ rows. Tells rows g)
    (sym (matches_are words ∙ ap (λ (W : Walk). finished rules W.held) ends ∙ finished_is h)) tells)

nothing_told : Tells [] none_given
nothing_told Rate = refl
nothing_told Block = refl
nothing_told Depth = refl

pub agrees : (words : List Text) → list_any is_odd (drop 1 words) ≡ false
    → Agrees words (options_of (drop 1 words) None none_given)
agrees words odd = agrees_by words _ (run (drop 1 words) odd None nothing_held none_given (refl, nothing_told))

-- what is read of a row
pub first_told : (rows : List Row) (g : Given) (key : Key) → Tells rows g → first_of (name_of key) rows ≡ given_at key g
first_told rows g key tells = ap (option_and_then (λ (r : Row). slice_get r.values 0)) (tells key) ∙ go (given_at key g)
  where
    go : (o : Option Text) → option_and_then (λ (r : Row). slice_get r.values 0) (option_map (row_of key) o) ≡ o
    go None = refl
    go (Some v) = refl

drop_odd : (words : List Text) → list_any is_odd words ≡ false → list_any is_odd (drop 1 words) ≡ false
drop_odd [] e = refl
drop_odd (w ∷ ws) e = rest_odd w ws e

abbrev is_some_kind : Kinds → Bool
is_some_kind [] = false
is_some_kind (k ∷ ks) = true

faulty_some : (ks : Kinds) → Faulty ks → ks ≡ [] → ⊥
faulty_some ks f e = true≢false (ap is_some_kind (sym f.2 ∙ e))

-- Ok gives what the words give
pub told : (words : List Text) (a : App) (rows : List Row) (g : Given) → a ≡ new_command → list_any is_odd words ≡ false
    → fault_of a words ≡ []
    → rows ≡ matches_of a words → first_of (codes "rate") rows ≡ g.rate → first_of (codes "block") rows ≡ g.block
    → first_of (codes "depth") rows ≡ g.depth
    → options_read words ≡ Some g
told words a rows g is odd clear found rate block depth = rw odd (go _ (agrees words (drop_odd words odd)))
  where
    clear_here : fault_of new_command words ≡ []
    clear_here = subst (λ (b : App). fault_of b words ≡ []) is clear

    found_here : rows ≡ matches_of new_command words
    found_here = subst (λ (b : App). rows ≡ matches_of b words) is found

    go : (o : Option Given) → Agrees words o → o ≡ Some g
    go _ (Fails f) = absurd (faulty_some _ f clear_here)
    go _ (Reads h _ tells) =
        let here : Tells rows h = subst (λ rs. Tells rs h) (sym found_here) tells in
        ap (λ x. Some (record h { rate = x })) (sym (first_told rows h Rate here) ∙ rate)
        ∙ ap (λ x. Some (record h { rate = g.rate; block = x })) (sym (first_told rows h Block here) ∙ block)
        ∙ ap (λ x. Some (record h { rate = g.rate; block = g.block; depth = x }))
        (sym (first_told rows h Depth here) ∙ depth)

-- an error that is no want of memory comes only where they give nothing
pub untold : (words : List Text) (a : App) (e : Error) → a ≡ new_command → list_any is_odd words ≡ false
    → HasKind (fault_of a words) e
    → (kind_of e ≡ kind.OutOfMemory → ⊥) → options_read words ≡ None
untold words a e is odd has other = rw odd (go _ (agrees words (drop_odd words odd)))
  where
    has_here : HasKind (fault_of new_command words) e
    has_here = subst (λ (b : App). HasKind (fault_of b words) e) is has

    among : IsAmong (kind_of e) (fault_of new_command words)
    among = elim has_here [
      | inl memory ↦ absurd (other memory)
      | inr some ↦ some
    ]

    go : (o : Option Given) → Agrees words o → o ≡ None
    go _ (Fails f) = refl
    go _ (Reads h clear tells) = absurd (subst (IsAmong (kind_of e)) clear among)
