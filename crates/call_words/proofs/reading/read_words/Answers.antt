use Rattle.std.proofs.Common.{◌≡◌, ◌<◌, refl, arith, List, [], ◌∷◌, length, map, String, Global, string_bytes, None}
use Rattle.call_words.specs.Words.{words_of}
use Rattle.call_words.proofs.reading.read_words.Goals as goal

-- fewer than two words are no command
too_few : (ws : List (String Global)) → length ws < 2 → words_of (map string_bytes ws) ≡ None
too_few [] few = refl
too_few (w ∷ []) few = refl
too_few (w ∷ v ∷ ws) few = absurd (omega arith)

pub returns-then-words-lt2-clause-usage : goal.returns-then-words-lt2-clause-usage
returns-then-words-lt2-clause-usage c = λ _. too_few c.args.words.now c.if-words-lt2.true
