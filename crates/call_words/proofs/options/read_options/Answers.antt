-- clap's walk over the words is the grammar.
use Rattle.std.proofs.Common.{◌≡◌, ◌∙◌, sym, ap, false, true, Bool, codes, true≢false, Result, Ok, Err}
use Rattle.clap.specs.{Words.app_of, Words.found_of, Words.is_simple, Words.rows_of, Faults.is_simple_and_free}
use Rattle.clap.proofs.WalkLemmas.{first_value-rows}
use Rattle.call_words.specs.declared.asked.WordsFault.{WordsFault}
use Rattle.call_words.specs.declared.asked.WordsFault.TheVariants.{Usage, NoMemory}
use Rattle.call_words.proofs.{NewOptions.is_plain, OptionLemmas.told, OptionLemmas.untold}
use Rattle.call_words.proofs.options.read_options.Goals as goal

abbrev is_usage : WordsFault → Bool
is_usage Usage = true
is_usage NoMemory = false

abbrev is_usage_in : {T : Type 0} → Result T WordsFault → Bool
is_usage_in (Ok x) = false
is_usage_in (Err e) = is_usage e

pub returns-in-Ok-try_get_matches_from-clause-given : goal.returns-in-Ok-try_get_matches_from-clause-given
returns-in-Ok-try_get_matches_from-clause-given c =
    let found = found_of c.in-Ok-try_get_matches_from.matches in
    let is = c.in-Ok.ensures in
    let simple : is_simple (app_of c.in-Ok.command) ≡ true = ap is_simple is in
    told _ (app_of c.in-Ok.command) (rows_of found) _ is (sym c.has_odd.ensures ∙ c.if-has_odd.false)
    (c.in-Ok-try_get_matches_from.ensures.kinds (ap is_simple_and_free is ∙ is_plain))
    (c.in-Ok-try_get_matches_from.ensures.matches simple).0
    (sym (first_value-rows found (codes "rate")) ∙ sym c.get_str.ensures)
    (sym (first_value-rows found (codes "block")) ∙ sym c.get_str-in-Ok-try_get_matches_from.ensures)
    (sym (first_value-rows found (codes "depth")) ∙ sym c.get_str-in-Ok-try_get_matches_from-2.ensures)

pub returns-in-Err-clause-usage : goal.returns-in-Err-clause-usage
returns-in-Err-clause-usage c = λ usage.
    untold _ (app_of c.in-Ok.command) c.in-Err.error c.in-Ok.ensures (sym c.has_odd.ensures ∙ c.if-has_odd.false)
    (c.in-Err.ensures.kinds (ap is_simple_and_free c.in-Ok.ensures ∙ is_plain))
    (λ memory. true≢false (ap is_usage_in (sym usage) ∙ ap is_usage (c.fault_of.ensures.1 memory)))
