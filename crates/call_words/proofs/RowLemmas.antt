-- A value of an option becomes a row, where none was given before.
use Rattle.std.proofs.Common.{◌≡◌, ◌∙◌, Bool, cond, true, false, refl, sym, ap, subst, List, [], ◌∷◌, ◌++◌, Option}
use Rattle.std.proofs.Common.{Some, None, codes, true≢false, ◌||◌}
use Rattle.std.specs.{Option.option_map, List.find, List.list_any, Str.bytes_eq}
use Rattle.clap.specs.Walk.{Row, at_row, has_row, more_values, used}
use Rattle.clap.specs.{Faults.use_fault, declared.parser.matches.ValueSource.TheVariants.CommandLine}
use Rattle.call_words.specs.Texts.{Text}
use Rattle.call_words.specs.Options.{Key, Rate, Block, Depth, Given, put}
use Rattle.call_words.proofs.NewOptions.{some≢none, Faulty, name_of, rule_of, row_of, given_at, Tells}
use Rattle.clap.specs.declared.error.kind.ErrorKind.TheVariants as kind

none_any : {X : Type 0} (p : X → Bool) (xs : List X) → find p xs ≡ None → list_any p xs ≡ false
none_any p [] e = refl
none_any p (x ∷ xs) e = go (p x) refl (none_any p xs)
  where
    go : (b : Bool) → p x ≡ b → (find p xs ≡ None → list_any p xs ≡ false) → (p x || list_any p xs) ≡ false
    go true hit rest = absurd (some≢none x (sym (rw hit refl) ∙ e))
    go false miss rest = rw miss (rest (sym (rw miss refl) ∙ e))

some_any : {X : Type 0} (p : X → Bool) (xs : List X) (x : X) → find p xs ≡ Some x → list_any p xs ≡ true
some_any p [] x e = absurd (some≢none x (sym e))
some_any p (y ∷ xs) x e = go (p y) refl (some_any p xs x)
  where
    go : (b : Bool) → p y ≡ b → (find p xs ≡ Some x → list_any p xs ≡ true) → (p y || list_any p xs) ≡ true
    go true hit rest = rw hit refl
    go false miss rest = rw miss (rest (sym (rw miss refl) ∙ e))

find_end : {X : Type 0} (p : X → Bool) (xs : List X) (x : X) → list_any p xs ≡ false → p x ≡ true
    → find p (xs ++ x ∷ []) ≡ Some x
find_end p [] x none hit = rw hit refl
find_end p (y ∷ xs) x none hit = go (p y) refl (λ e. find_end p xs x e hit)
  where
    go : (b : Bool) → p y ≡ b → (list_any p xs ≡ false → find p (xs ++ x ∷ []) ≡ Some x)
        → cond (p y) (Some y) (find p (xs ++ x ∷ [])) ≡ Some x
    go true here rest = absurd (true≢false (sym (rw here refl) ∙ none))
    go false miss rest = rw miss (rest (sym (rw miss refl) ∙ none))

find_past : {X : Type 0} (p : X → Bool) (xs : List X) (x : X) → p x ≡ false → find p (xs ++ x ∷ []) ≡ find p xs
find_past p [] x miss = rw miss refl
find_past p (y ∷ xs) x miss = go (p y) refl (find_past p xs x miss)
  where
    go : (b : Bool) → p y ≡ b → find p (xs ++ x ∷ []) ≡ find p xs
        → cond (p y) (Some y) (find p (xs ++ x ∷ [])) ≡ cond (p y) (Some y) (find p xs)
    go true here rest = rw here refl
    go false there rest = rw there rest

at_row_none : (id : Text) (change : Row → List Row) (missing rows : List Row) → has_row id rows ≡ false
    → at_row id change missing rows ≡ rows ++ missing
at_row_none id change missing [] none = refl
at_row_none id change missing (r ∷ rs) none = go (bytes_eq r.id id) refl (at_row_none id change missing rs)
  where
    go : (b : Bool) → bytes_eq r.id id ≡ b → (has_row id rs ≡ false → at_row id change missing rs ≡ rs ++ missing)
        → cond (bytes_eq r.id id) (change r ++ rs) (r ∷ at_row id change missing rs) ≡ r ∷ (rs ++ missing)
    go true here rest = absurd (true≢false (sym (rw here refl) ∙ none))
    go false miss rest = rw miss (ap (λ xs. r ∷ xs) (rest (sym (rw miss refl) ∙ none)))

append_none : {X : Type 0} (xs : List X) → xs ++ [] ≡ xs
append_none [] = refl
append_none (x ∷ xs) = ap (λ ys. x ∷ ys) (append_none xs)

used_new : (key : Key) (v : Text) (rows : List Row) → has_row (name_of key) rows ≡ false
    → used (rule_of key) (v ∷ []) rows ≡ rows ++ row_of key v ∷ []
used_new Rate v rows none = rw (at_row_none (codes "rate") (λ _. []) [] rows none ∙ append_none rows)
    (at_row_none (codes "rate") (more_values CommandLine (v ∷ [])) _ rows none)
used_new Block v rows none = rw (at_row_none (codes "block") (λ _. []) [] rows none ∙ append_none rows)
    (at_row_none (codes "block") (more_values CommandLine (v ∷ [])) _ rows none)
used_new Depth v rows none = rw (at_row_none (codes "depth") (λ _. []) [] rows none ∙ append_none rows)
    (at_row_none (codes "depth") (more_values CommandLine (v ∷ [])) _ rows none)

use_new : (key : Key) (v : Text) (rows : List Row) → has_row (name_of key) rows ≡ false
    → use_fault false (rule_of key) (v ∷ []) rows ≡ []
use_new Rate v rows none = rw none refl
use_new _ v rows none = rw none refl

pub use_again : (key : Key) (v : Text) (rows : List Row) → has_row (name_of key) rows ≡ true
    → Faulty (use_fault false (rule_of key) (v ∷ []) rows)
use_again Rate v rows there = (kind.ArgumentConflict, [], rw there refl)
use_again _ v rows there = (kind.ArgumentConflict, [], rw there refl)

pub data Puts (rows : List Row) (key : Key) (v : Text) : Option Given → Type 0 where
  Fresh : (g : Given) → use_fault false (rule_of key) (v ∷ []) rows ≡ [] → Tells (used (rule_of key) (v ∷ []) rows) g
      → Puts rows key v (Some g)
  Again : Faulty (use_fault false (rule_of key) (v ∷ []) rows) → Puts rows key v None

row_absent : (rows : List Row) (key : Key) (g : Given) → Tells rows g → given_at key g ≡ None
    → has_row (name_of key) rows ≡ false
row_absent rows key g tells e =
    none_any (λ r. bytes_eq r.id (name_of key)) rows (tells key ∙ ap (option_map (row_of key)) e)

row_there : (rows : List Row) (key : Key) (g : Given) (v : Text) → Tells rows g → given_at key g ≡ Some v
    → has_row (name_of key) rows ≡ true
row_there rows key g v tells e =
    some_any (λ r. bytes_eq r.id (name_of key)) rows (row_of key v) (tells key ∙ ap (option_map (row_of key)) e)

-- what is given, and a value of one more option
abbrev given_with : Key → Text → Given → Given
given_with Rate v g = record g { rate = Some v }
given_with Block v g = record g { block = Some v }
given_with Depth v g = record g { depth = Some v }

tells_more : (rows : List Row) (key : Key) (v : Text) (g : Given) → Tells rows g → has_row (name_of key) rows ≡ false
    → Tells (rows ++ row_of key v ∷ []) (given_with key v g)
tells_more rows Rate v g tells none Rate = find_end _ rows (row_of Rate v) none refl
tells_more rows Block v g tells none Block = find_end _ rows (row_of Block v) none refl
tells_more rows Depth v g tells none Depth = find_end _ rows (row_of Depth v) none refl
tells_more rows Rate v g tells none Block = find_past _ rows (row_of Rate v) refl ∙ tells Block
tells_more rows Rate v g tells none Depth = find_past _ rows (row_of Rate v) refl ∙ tells Depth
tells_more rows Block v g tells none Rate = find_past _ rows (row_of Block v) refl ∙ tells Rate
tells_more rows Block v g tells none Depth = find_past _ rows (row_of Block v) refl ∙ tells Depth
tells_more rows Depth v g tells none Rate = find_past _ rows (row_of Depth v) refl ∙ tells Rate
tells_more rows Depth v g tells none Block = find_past _ rows (row_of Depth v) refl ∙ tells Block

put_new : (key : Key) (v : Text) (g : Given) → given_at key g ≡ None → put key v g ≡ Some (given_with key v g)
put_new Rate v g e = rw e refl
put_new _ v g e = rw e refl

put_again : (key : Key) (v old : Text) (g : Given) → given_at key g ≡ Some old → put key v g ≡ None
put_again Rate v old g e = rw e refl
put_again _ v old g e = rw e refl

pub putting : (rows : List Row) (key : Key) (v : Text) (g : Given) → Tells rows g → Puts rows key v (put key v g)
putting rows key v g tells = go (given_at key g) refl
  where
    go : (o : Option Text) → given_at key g ≡ o → Puts rows key v (put key v g)
    go None e = let none = row_absent rows key g tells e in
        subst (Puts rows key v) (sym (put_new key v g e)) (Fresh (given_with key v g) (use_new key v rows none)
        (rw (used_new key v rows none) (tells_more rows key v g tells none)))
    go (Some old) e = subst (Puts rows key v) (sym (put_again key v old g e))
        (Again (use_again key v rows (row_there rows key g old tells e)))
