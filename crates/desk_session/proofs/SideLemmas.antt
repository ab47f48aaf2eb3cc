-- A side of a session, from what it is lent to what comes back.
use Rattle.std.proofs.Common.{◌≡◌, ℕ, Option, Some, None, Result, Ok, Err, sym, ◌∙◌, subst}
use Rattle.std.specs.Prelude.{IsErrAnd, IsOkAnd, IsSomeAnd, MatchResult}
use Rattle.session_threads.specs.IfGiven.{IfGiven}
use Rattle.desk_session.specs.{declared.side.Side.Side, Sides.Lends, Sides.WhereMade, Sides.side_number}
use Rattle.desk_session.specs.declared.side.Side.TheVariants as side

module _ {W R A : Type 0} (Works : ℕ → W → Type 0) (Rests : R → Type 0) (OfWork : W → A → Type 0) (OfDone : A → Type 0)
    (OfRest : R → Type 0) where
  -- what the work of a side led to
  abbrev pub DidWork : ℕ → Type 0
  DidWork x = (w : W) × (a : A) × Works x w × OfWork w a × OfDone a

  -- or what was kept
  abbrev pub DidRest : Type 0
  DidRest = (r : R) × Rests r × OfRest r

  worked : (x : ℕ) (lent : Result W R) (done : Result A R) → IsOkAnd lent (Works x) → IfGiven OfWork lent done
      → MatchResult done OfDone OfRest → DidWork x
  worked x (Ok w) (Ok a) h given came = (w, a, h, given, came)
  worked x (Ok w) (Err r) h given came = absurd given
  worked x (Err r) done h given came = absurd h

  rested : (lent : Result W R) (done : Result A R) → IsErrAnd lent Rests → IfGiven OfWork lent done
      → MatchResult done OfDone OfRest → DidRest
  rested (Ok w) done h given came = absurd h
  rested (Err r) done h given came = (r, h, subst (λ (z : Result A R). MatchResult z OfDone OfRest) given came)

  pub back : (made : Side) (lent : Result W R) (done : Result A R) → Lends made Works Rests lent
      → IfGiven OfWork lent done → MatchResult done OfDone OfRest → WhereMade made DidWork DidRest
  back side.NotAsked lent done h given came = rested lent done h given came
  back (side.Made x) lent done h given came = worked x lent done h given came
  back (side.Refused why) lent done h given came = rested lent done h given came

-- what is said of both, in other words
pub where_both : {P Q : ℕ → Type 0} {E F : Type 0} (made : Side) → WhereMade made P E
    → ((x : ℕ) → P x → Q x) → (E → F) → WhereMade made Q F
where_both side.NotAsked h f g = g h
where_both (side.Made x) h f g = f x h
where_both (side.Refused why) h f g = g h

-- the same of two things that hold of what was made
pub where_two : {P R Q : ℕ → Type 0} {E G F : Type 0} (made : Side)
    → WhereMade made P E → WhereMade made R G → ((x : ℕ) → P x → R x → Q x) → (E → G → F) → WhereMade made Q F
where_two side.NotAsked h k f g = g h k
where_two (side.Made x) h k f g = f x h k
where_two (side.Refused why) h k f g = g h k

-- what holds either way
pub where_any : {P : ℕ → Type 0} {E F : Type 0} (made : Side) → WhereMade made P E
    → ((x : ℕ) → P x → F) → (E → F) → F
where_any side.NotAsked h f g = g h
where_any (side.Made x) h f g = f x h
where_any (side.Refused why) h f g = g h

some_or_none : (o : Option ℕ) (x : ℕ) → o ≡ Some x → o ≡ None → ⊥
some_or_none o x some none = no (sym some ∙ none)
  where
    no : Some x ≡ None → ⊥
    no h = cc

-- what was made, where its number is there
pub where_some : (P : ℕ → Type 0) (E : Type 0) (made : Side) (o : Option ℕ) (x : ℕ) → o ≡ side_number made
    → o ≡ Some x → P x → WhereMade made P E
where_some P E side.NotAsked o x told is h = absurd (some_or_none o x is told)
where_some P E (side.Refused why) o x told is h = absurd (some_or_none o x is told)
where_some P E (side.Made y) o x told is h = subst P (some_inj x y (sym is ∙ told)) h
  where
    some_inj : (x y : ℕ) → Some x ≡ Some y → x ≡ y
    some_inj x y e = cc

-- and where it is not
pub where_none : (P : ℕ → Type 0) (E : Type 0) (made : Side) (o : Option ℕ) → o ≡ side_number made → o ≡ None → E
    → WhereMade made P E
where_none P E side.NotAsked o told is h = h
where_none P E (side.Refused why) o told is h = h
where_none P E (side.Made y) o told is h = absurd (some_or_none o y told is)

-- what holds of what is there
pub some_any : {X F : Type 0} {P : X → Type 0} (o : Option X) → IsSomeAnd o P → ((x : X) → P x → F) → F
some_any None h f = absurd h
some_any (Some x) h f = f x h

pub some_as : {X : Type 0} {P Q : X → Type 0} (o : Option X) → IsSomeAnd o P → ((x : X) → P x → Q x) → IsSomeAnd o Q
some_as None h f = absurd h
some_as (Some x) h f = f x h
