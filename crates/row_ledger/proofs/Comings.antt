-- Rows that a list comes to have, one after another.
use Rattle.std.proofs.Common.{◌≡◌, refl, ℕ, ◌+◌, ◌^◌, ◌≤◌, ◌<◌, List, [], ◌∷◌, ◌++◌, length}
use Rattle.std.proofs.Common.{sym, ◌∙◌, ap, subst, arith, append_assoc}
use Rattle.std.proofs.Common.{Result, Ok, Err}
use Rattle.std.specs.Prelude.{OnOk, OnErr}
use Rattle.std.proofs.lemmas.List.{append-nil}
use Rattle.block_ledger.specs.Counts.{occurrences, times}
use Rattle.row_ledger.specs.Rows.{TableState, Comes, Adds, Laid, AreThere, AreUsed, counts, flat, ids_at}
use Rattle.row_ledger.proofs.{Sums.times_append, Turns.flat_append, Turns.flat_kept, Turns.came_used}
use Rattle.row_ledger.proofs.Turns.{comes_none, comes_append, comes_undone}

-- nothing came
pub adds_same : (old new : TableState) (xs : List ℕ) → Comes old new [] → Adds old new xs xs
adds_same old new xs come = record { added = []; extended = sym (append-nil xs); come = come }

pub laid_none : (t : TableState) (xs : List ℕ) → Laid t t xs xs []
laid_none t xs = record { added = []; extended = sym (append-nil xs); come = comes_none t; same = refl }

pub laid_adds : (old new : TableState) (before after ids : List ℕ) → Laid old new before after ids
    → Adds old new before after
laid_adds old new before after ids laid =
    record { added = laid.added; extended = laid.extended; come = laid.come }

-- one row came
pub laid_row : (old new : TableState) (xs : List ℕ) (row : ℕ) (ids : List ℕ) → Comes old new (row ∷ [])
    → ids_at new.rows row ≡ ids → Laid old new xs (xs ++ row ∷ []) ids
laid_row old new xs row ids come same =
    record { added = row ∷ []; extended = refl; come = come; same = append-nil (ids_at new.rows row) ∙ same }

-- no ids were wanted
pub laid_empty : (t : TableState) (xs ids : List ℕ) → length ids ≡ 0 → Laid t t xs xs ids
laid_empty t xs [] none = laid_none t xs
laid_empty t xs (id ∷ ids) none = absurd (omega (arith, none))

pub on_ok : {A E : Type 0} (r : Result A E) (P Q : Type 0) → (P → Q) → OnOk r P → OnOk r Q
on_ok (Ok x) P Q f p = f p
on_ok (Err e) P Q f p = tt

pub on_err : {A E : Type 0} (r : Result A E) (P Q : Type 0) → (P → Q) → OnErr r P → OnErr r Q
on_err (Ok x) P Q f p = tt
on_err (Err e) P Q f p = f p

pub any_ok : {A E : Type 0} (r : Result A E) (P : Type 0) → P → OnOk r P
any_ok (Ok x) P p = p
any_ok (Err e) P p = tt

pub any_err : {A E : Type 0} (r : Result A E) (P : Type 0) → P → OnErr r P
any_err (Ok x) P p = tt
any_err (Err e) P p = p

-- a row that a list has just come to have stays in it
pub kept_ok : {A E : Type 0} (r : Result A E) (old mid new : TableState) (xs ys : List ℕ) (row : ℕ) (ids : List ℕ)
    → Comes old mid (row ∷ []) → ids_at mid.rows row ≡ ids → OnOk r ((new ≡ mid) × (ys ≡ xs ++ row ∷ []))
    → OnOk r (Laid old new xs ys ids)
kept_ok (Ok x) old mid new xs ys row ids come same kept =
    subst (λ (t : TableState). Laid old t xs ys ids) (sym kept.0)
    (subst (λ (zs : List ℕ). Laid old mid xs zs ids) (sym kept.1) (laid_row old mid xs row ids come same))
kept_ok (Err e) old mid new xs ys row ids come same kept = tt

-- or goes again
pub kept_err : {A E : Type 0} (r : Result A E) (old mid new : TableState) (xs ys : List ℕ) (row : ℕ)
    → Comes old mid (row ∷ []) → OnErr r (Comes new mid (row ∷ []) × (ys ≡ xs)) → OnErr r (Adds old new xs ys)
kept_err (Ok x) old mid new xs ys row come gone = tt
kept_err (Err e) old mid new xs ys row come gone =
    subst (λ (zs : List ℕ). Adds old new xs zs) (sym gone.1)
    (adds_same old new xs (comes_undone old mid new (row ∷ []) come gone.0))

-- some came after others
after_both : (before mid after xs ys : List ℕ) → mid ≡ before ++ xs → after ≡ mid ++ ys → after ≡ before ++ (xs ++ ys)
after_both before mid after xs ys e f = f ∙ ap (λ (zs : List ℕ). zs ++ ys) e ∙ append_assoc before xs ys

pub adds_more : (a b c : TableState) (before mid after : List ℕ) → Adds a b before mid → Adds b c mid after
    → Adds a c before after
adds_more a b c before mid after one two = record {
  added = one.added ++ two.added;
  extended = after_both before mid after one.added two.added one.extended two.extended;
  come = comes_append a b c one.added two.added one.come two.come;
}

pub laid_more : (a b c : TableState) (before mid after xs ys : List ℕ) → Laid a b before mid xs
    → Laid b c mid after ys → Laid a c before after (xs ++ ys)
laid_more a b c before mid after xs ys one two = record {
  added = one.added ++ two.added;
  extended = after_both before mid after one.added two.added one.extended two.extended;
  come = comes_append a b c one.added two.added one.come two.come;
  same = flat_append c.rows one.added two.added
      ∙ ap (λ (zs : List ℕ). zs ++ flat c.rows two.added)
      (flat_kept b.rows c.rows one.added two.come.rows (came_used a b one.added one.come) ∙ one.same)
      ∙ ap (λ (zs : List ℕ). xs ++ zs) two.same;
}

pub laid_is : (a b : TableState) (before after xs ys : List ℕ) → xs ≡ ys → Laid a b before after xs
    → Laid a b before after ys
laid_is a b before after xs ys e laid = subst (λ (zs : List ℕ). Laid a b before after zs) e laid

-- rows that lists have stay had
pub used_still : (old new : TableState) (xs ks : List ℕ) → Comes old new xs → AreUsed old.rows ks → AreUsed new.rows ks
used_still old new xs ks come used = λ k some. omega (arith, used k some, come.uses k)

-- the ids that are still to be laid
pub record Laying (old new : TableState) (before after rest ids : List ℕ) : Type 0 where
  pub done : List ℕ
  pub laid : Laid old new before after done
  pub all : done ++ rest ≡ ids

pub laying_none : (t : TableState) (xs ids : List ℕ) → Laying t t xs xs ids ids
laying_none t xs ids = record { done = []; laid = laid_none t xs; all = refl }

pub laying_more : (a b c : TableState) (before mid after rest first more ids : List ℕ)
    → Laying a b before mid rest ids → first ++ more ≡ rest → Laid b c mid after first
    → Laying a c before after more ids
laying_more a b c before mid after rest first more ids one e two = record {
  done = one.done ++ first;
  laid = laid_more a b c before mid after one.done first one.laid two;
  all = append_assoc one.done first more ∙ ap (λ (zs : List ℕ). one.done ++ zs) e ∙ one.all;
}

pub laying_end : (a b : TableState) (before after rest ids : List ℕ) → Laying a b before after rest ids
    → length rest ≡ 0
    → Laid a b before after ids
laying_end a b before after [] ids one none =
    laid_is a b before after one.done ids (sym (append-nil one.done) ∙ one.all) one.laid
laying_end a b before after (x ∷ rest) ids one none = absurd (omega (arith, none))

-- how often an id comes in what is next
times_next : (id : ℕ) (done first more rest ids : List ℕ) → done ++ rest ≡ ids → first ++ more ≡ rest
    → times id done + times id first ≤ times id ids
times_next id done first more rest ids e f = omega (
  arith,
  ap (times id) e,
  ap (times id) f,
  times_append id done rest,
  times_append id first more,
)

pub laying_there : (a b : TableState) (before mid rest first more ids : List ℕ) → Laying a b before mid rest ids
    → first ++ more ≡ rest → AreThere (counts a) ids → AreThere (counts b) first
laying_there a b before mid rest first more ids one e there = λ id some.
    (one.laid.come.held.there id).1
    (there id (omega (arith, some, times_next id one.done first more rest ids one.all e)))

pub laying_few : (a b : TableState) (before mid rest first more ids : List ℕ) → Laying a b before mid rest ids
    → first ++ more ≡ rest → ((id : ℕ) → occurrences (counts a id) + times id ids < 2 ^ 128)
    → (id : ℕ) → occurrences (counts b id) + times id first < 2 ^ 128
laying_few a b before mid rest first more ids one e few = λ id. omega (
  arith,
  few id,
  one.laid.come.held.counts id,
  ap (times id) one.laid.same,
  times_next id one.done first more rest ids one.all e,
)
