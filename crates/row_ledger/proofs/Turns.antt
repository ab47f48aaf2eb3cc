-- Rows that come, one after another, and go again.
use Rattle.std.proofs.Common.{◌≡◌, ◌≢◌, ⊎_elim, refl, ℕ, ◌+◌, ◌*◌, ◌<◌, List, [], ◌∷◌, subst}
use Rattle.std.proofs.Common.{◌++◌, sym, ◌∙◌, ap, arith, append_assoc}
use Rattle.std.specs.Prelude.{IsSome, ◌↔◌}
use Rattle.std.proofs.lemmas.Bool.{cases_eq, eq-eqb}
use Rattle.pcm_base.proofs.ListFacts.{differ}
use Rattle.block_ledger.specs.Counts.{occurrences, times}
use Rattle.block_ledger.specs.Entries.{count_of}
use Rattle.row_ledger.specs.declared.row.Row.{Row}
use Rattle.row_ledger.specs.Rows.{in_rows, in_uses, ids_at, uses_at, flat, TableState, IsTable, counts}
use Rattle.row_ledger.specs.Rows.{singles, Held, Comes, Keeps, AreUsed, AreHad}
use Rattle.row_ledger.proofs.{Sums.times_append, Sums.times_none, Sums.count_is, Sums.there_same, Moves.At}

pub times_here : (id x : ℕ) (xs : List ℕ) → x ≡ id → times id (x ∷ xs) ≡ times id xs + 1
times_here id x xs same = rw (eq-eqb x id same) (omega arith)

pub times_other : (id x : ℕ) (xs : List ℕ) → x ≢ id → times id (x ∷ xs) ≡ times id xs
times_other id x xs ne = rw (differ x id ne) (omega arith)

pub flat_append : (rows : List Row) (xs ys : List ℕ) → flat rows (xs ++ ys) ≡ flat rows xs ++ flat rows ys
flat_append rows [] ys = refl
flat_append rows (x ∷ xs) ys =
    ap (λ (zs : List ℕ). ids_at rows x ++ zs) (flat_append rows xs ys)
    ∙ sym (append_assoc (ids_at rows x) (flat rows xs) (flat rows ys))

used_tail : (rows : List Row) (x : ℕ) (xs : List ℕ) → AreUsed rows (x ∷ xs) → AreUsed rows xs
used_tail rows x xs used = λ k some. used k (omega (arith, some))

used_head : (rows : List Row) (x : ℕ) (xs : List ℕ) → AreUsed rows (x ∷ xs) → 0 < uses_at rows x
used_head rows x xs used = used x (omega (arith, times_here x x xs refl))

pub flat_kept : (old new : List Row) (xs : List ℕ) → Keeps old new → AreUsed old xs → flat new xs ≡ flat old xs
flat_kept old new [] keeps used = refl
flat_kept old new (x ∷ xs) keeps used =
    ap (λ (zs : List ℕ). zs ++ flat new xs) (keeps x (used_head old x xs used))
    ∙ ap (λ (zs : List ℕ). ids_at old x ++ zs) (flat_kept old new xs keeps (used_tail old x xs used))

-- what came is had
pub came_used : (old new : TableState) (xs : List ℕ) → Comes old new xs → AreUsed new.rows xs
came_used old new xs come = λ k some. omega (arith, come.uses k, some)

-- the sums of one row more
pub record More (old new : TableState) (k : ℕ) : Type 0 where
  pub singles : (id : ℕ) → singles new id ≡ singles old id
  pub sums : (id : ℕ) → in_uses id new.rows ≡ in_uses id old.rows + times id (ids_at new.rows k)
  pub there : (id : ℕ) → IsSome (count_of new.ledger id) ↔ IsSome (count_of old.ledger id)
  pub uses : uses_at new.rows k ≡ uses_at old.rows k + 1
  pub at : At old.rows new.rows k
  pub kept : 0 < uses_at old.rows k → ids_at new.rows k ≡ ids_at old.rows k

through : (A B C D : Type 0) → A ↔ B → C ↔ D → B ↔ D → A ↔ C
through A B C D ab cd bd = (λ a. cd.1 (bd.0 (ab.0 a)), λ c. ab.1 (bd.1 (cd.0 c)))

pub comes_of : (old new : TableState) (k : ℕ) → IsTable old → IsTable new → More old new k → Comes old new (k ∷ [])
comes_of old new k was is more = record {
  held = record {
    counts = λ id. omega (
      arith,
      count_is old id was,
      count_is new id is,
      more.singles id,
      more.sums id,
      times_append id (ids_at new.rows k) [],
    );
    there = λ id. through (IsSome (counts new id)) (IsSome (count_of new.ledger id)) (IsSome (counts old id))
        (IsSome (count_of old.ledger id)) (there_same new id) (there_same old id) (more.there id);
  };
  singles = more.singles;
  uses = λ j. ⊎_elim
      (λ same. subst (λ (i : ℕ). uses_at new.rows i ≡ uses_at old.rows i + times i (k ∷ [])) same
      (omega (arith, more.uses, times_here k k [] refl)))
      (λ ne. omega (arith, more.at.other_uses j (λ e. ne (sym e)), times_other j k [] ne))
      (cases_eq k j);
  rows = λ j used. ⊎_elim
      (λ same. subst (λ (i : ℕ). 0 < uses_at old.rows i → ids_at new.rows i ≡ ids_at old.rows i) same more.kept used)
      (λ ne. more.at.other_ids j (λ e. ne (sym e)))
      (cases_eq k j);
}

-- a row that lists have is had once more
pub more_use : (old new : TableState) (k : ℕ) → IsTable old → At old.rows new.rows k
    → ids_at new.rows k ≡ ids_at old.rows k → uses_at new.rows k ≡ uses_at old.rows k + 1
    → ((id : ℕ) → count_of new.ledger id ≡ count_of old.ledger id) → More old new k
more_use old new k was at ids uses same = record {
  singles = λ id. omega (arith, sums id, rows id, ap occurrences (same id));
  sums = sums;
  there = λ id. (subst IsSome (same id), subst IsSome (sym (same id)));
  uses = uses;
  at = at;
  kept = λ used. ids;
}
  where
    one_more : (u t : ℕ) → (u + 1) * t ≡ u * t + t
    one_more u t = omega arith

    rows : (id : ℕ) → in_rows id new.rows ≡ in_rows id old.rows
    rows id = omega (arith, at.rows id, ap (times id) ids)

    sums : (id : ℕ) → in_uses id new.rows ≡ in_uses id old.rows + times id (ids_at new.rows k)
    sums id =
        let t = times id (ids_at old.rows k) in
        let e : uses_at new.rows k * times id (ids_at new.rows k) ≡ uses_at old.rows k * t + t =
        ap (λ (u : ℕ). u * times id (ids_at new.rows k)) uses
        ∙ ap (λ (xs : List ℕ). (uses_at old.rows k + 1) * times id xs) ids
        ∙ one_more (uses_at old.rows k) t in
        omega (arith, at.uses id, e, ap (times id) ids)

-- a new row
pub new_row : (old new : TableState) (k : ℕ) → IsTable old → At old.rows new.rows k
    → uses_at old.rows k ≡ 0 → ids_at old.rows k ≡ [] → uses_at new.rows k ≡ 1
    → Held (count_of old.ledger) (count_of new.ledger) (ids_at new.rows k) → More old new k
new_row old new k was at free none uses held = record {
  singles = λ id. omega (arith, rows id, held.counts id, was.held id);
  sums = sums;
  there = held.there;
  uses = omega (arith, free, uses);
  at = at;
  kept = λ used. absurd (omega (arith, used, free));
}
  where
    rows : (id : ℕ) → in_rows id new.rows ≡ in_rows id old.rows + times id (ids_at new.rows k)
    rows id = omega (arith, at.rows id, times_none id (ids_at old.rows k) none)

    sums : (id : ℕ) → in_uses id new.rows ≡ in_uses id old.rows + times id (ids_at new.rows k)
    sums id =
        let e : uses_at new.rows k * times id (ids_at new.rows k) ≡ times id (ids_at new.rows k) =
        ap (λ (u : ℕ). u * times id (ids_at new.rows k)) uses ∙ omega arith in
        let f : uses_at old.rows k * times id (ids_at old.rows k) ≡ 0 =
        ap (λ (u : ℕ). u * times id (ids_at old.rows k)) free ∙ omega arith in
        omega (arith, at.uses id, e, f)

-- some rows, and then others
pub comes_append : (a b c : TableState) (xs ys : List ℕ) → Comes a b xs → Comes b c ys → Comes a c (xs ++ ys)
comes_append a b c xs ys one two = record {
  held = record {
    counts = λ id. omega (
      arith,
      one.held.counts id,
      two.held.counts id,
      ap (times id) (flat_append c.rows xs ys ∙ ap (λ (zs : List ℕ). zs ++ flat c.rows ys)
          (flat_kept b.rows c.rows xs two.rows (came_used a b xs one))),
      times_append id (flat b.rows xs) (flat c.rows ys),
    );
    there = λ id. (
      λ s. (one.held.there id).0 ((two.held.there id).0 s),
      λ s. (two.held.there id).1 ((one.held.there id).1 s),
    );
  };
  singles = λ id. two.singles id ∙ one.singles id;
  uses = λ k. omega (arith, one.uses k, two.uses k, times_append k xs ys);
  rows = λ k used. two.rows k (omega (arith, one.uses k, used)) ∙ one.rows k used;
}

-- what came goes again
pub comes_undone : (old mid new : TableState) (xs : List ℕ) → Comes old mid xs → Comes new mid xs → Comes old new []
comes_undone old mid new xs one two = record {
  held = record {
    counts = λ id. omega (arith, one.held.counts id, two.held.counts id);
    there = λ id. (
      λ s. (one.held.there id).0 ((two.held.there id).1 s),
      λ s. (two.held.there id).0 ((one.held.there id).1 s),
    );
  };
  singles = λ id. sym (two.singles id) ∙ one.singles id;
  uses = λ k. omega (arith, one.uses k, two.uses k);
  rows = λ k used. sym (two.rows k (omega (arith, one.uses k, two.uses k, used))) ∙ one.rows k used;
}

pub comes_none : (t : TableState) → Comes t t []
comes_none t = record {
  held = record { counts = λ id. omega arith; there = λ id. (λ s. s, λ s. s) };
  singles = λ id. refl;
  uses = λ k. omega arith;
  rows = λ k used. refl;
}

-- and the rest goes too
pub had_rest : (old mid : TableState) (xs ys : List ℕ) → AreHad old.rows (xs ++ ys) → Comes mid old xs
    → AreHad mid.rows ys
had_rest old mid xs ys had come = λ k. omega (arith, had k, come.uses k, times_append k xs ys)

-- rows that go, in the order in which they are named
pub comes_joined : (a b c : TableState) (xs ys : List ℕ) → Comes a b xs → Comes b c ys → Comes a c (ys ++ xs)
comes_joined a b c xs ys one two = record {
  held = record {
    counts = λ id. omega (
      arith,
      one.held.counts id,
      two.held.counts id,
      ap (times id) (flat_append c.rows ys xs ∙ ap (λ (zs : List ℕ). flat c.rows ys ++ zs)
          (flat_kept b.rows c.rows xs two.rows (came_used a b xs one))),
      times_append id (flat c.rows ys) (flat b.rows xs),
    );
    there = λ id. (
      λ s. (one.held.there id).0 ((two.held.there id).0 s),
      λ s. (two.held.there id).1 ((one.held.there id).1 s),
    );
  };
  singles = λ id. two.singles id ∙ one.singles id;
  uses = λ k. omega (arith, one.uses k, two.uses k, times_append k ys xs);
  rows = λ k used. two.rows k (omega (arith, one.uses k, used)) ∙ one.rows k used;
}
