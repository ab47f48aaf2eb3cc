-- A list comes to a number, or nothing changes: by the result of laying its rows.
use Rattle.std.proofs.Common.{◌≡◌, ℕ, List, [], sym, ◌∙◌, ap, subst, Result, Ok, Err}
use Rattle.std.specs.Prelude.{OnOk, OnErr}
use Rattle.std.specs.List.{insert}
use Rattle.row_ledger.specs.declared.row.Listed.{Listed}
use Rattle.row_ledger.specs.Rows.{TableState, Adds, AreHad, Comes, HasSameRoom, Laid, flat}
use Rattle.row_ledger.specs.Lists.{IsGap, IsRows, IsSame, ListComes}
use Rattle.std.proofs.Common.{arith}
use Rattle.row_ledger.proofs.{Changes.Kept, Changes.comes, Changes.comes_rows, Changes.stays, Changes.stays_rows}
use Rattle.row_ledger.proofs.{Turns.comes_undone}

-- the rows that were laid, all or some
pub came : {A E : Type 0} (r : Result A E) (old mid : TableState) (rows ids : List ℕ)
    → OnOk r (Laid old mid [] rows ids) → OnErr r (Adds old mid [] rows) → Comes old mid rows
came (Ok x) old mid rows ids laid adds = subst (λ (ks : List ℕ). Comes old mid ks) (sym laid.extended) laid.come
came (Err e) old mid rows ids laid adds = subst (λ (ks : List ℕ). Comes old mid ks) (sym adds.extended) adds.come

pub came_had : (old mid : TableState) (rows : List ℕ) → Comes old mid rows → AreHad mid.rows rows
came_had old mid rows come = λ k. omega (arith, come.uses k)

module _ {A E : Type 0} (old mid new : TableState) (ls ms : List Listed) (place : ℕ) (l : Listed) (ids : List ℕ)
    (is : IsRows old ls) (gap : IsGap ls l.number place) where
  -- the number has the list
  pub hold_ok : (r : Result A E) → OnOk r (Laid old mid [] l.rows.items ids) → OnErr r (Adds old mid [] l.rows.items)
      → OnOk r ((new ≡ mid) × (ms ≡ insert ls place l)) → HasSameRoom old.ledger mid.ledger
      → OnOk r (ListComes (Kept old ls) (Kept new ms) l.number ids)
  hold_ok (Ok x) laid adds kept room =
      let come = came {A = A} {E = E} (Ok x) old mid l.rows.items ids laid adds in
      let made = comes old mid ls place l ids is gap come (ap (flat mid.rows) laid.extended ∙ laid.same) room in
      subst (λ (t : TableState). ListComes (Kept old ls) (Kept t ms) l.number ids) (sym kept.0)
      (subst (λ (ns : List Listed). ListComes (Kept old ls) (Kept mid ns) l.number ids) (sym kept.1) made)
  hold_ok (Err e) laid adds kept room = tt

  -- or nothing changed
  pub hold_err : (r : Result A E) → OnOk r (Laid old mid [] l.rows.items ids) → OnErr r (Adds old mid [] l.rows.items)
      → OnErr r (Comes new mid l.rows.items × (ms ≡ ls)) → HasSameRoom old.ledger new.ledger
      → OnErr r (IsSame (Kept old ls) (Kept new ms))
  hold_err (Ok x) laid adds gone room = tt
  hold_err (Err e) laid adds gone room =
      let come = came {A = A} {E = E} (Err e) old mid l.rows.items ids laid adds in
      subst (λ (ns : List Listed). IsSame (Kept old ls) (Kept new ns)) (sym gone.1)
      (stays old new ls is (comes_undone old mid new l.rows.items come gone.0) room)

  -- in either case rows are used as often as lists have them
  pub hold_rows : (r : Result A E) → OnOk r (Laid old mid [] l.rows.items ids) → OnErr r (Adds old mid [] l.rows.items)
      → OnOk r ((new ≡ mid) × (ms ≡ insert ls place l)) → OnErr r (Comes new mid l.rows.items × (ms ≡ ls))
      → IsRows new ms
  hold_rows (Ok x) laid adds kept gone =
      let come = came {A = A} {E = E} (Ok x) old mid l.rows.items ids laid adds in
      subst (λ (t : TableState). IsRows t ms) (sym kept.0)
      (subst (λ (ns : List Listed). IsRows mid ns) (sym kept.1) (comes_rows old mid ls place l is gap come))
  hold_rows (Err e) laid adds kept gone =
      let come = came {A = A} {E = E} (Err e) old mid l.rows.items ids laid adds in
      subst (λ (ns : List Listed). IsRows new ns) (sym gone.1)
      (stays_rows old new ls is (comes_undone old mid new l.rows.items come gone.0))
