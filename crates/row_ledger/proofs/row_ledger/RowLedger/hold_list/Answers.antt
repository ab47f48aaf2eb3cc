-- The rows are laid and become the list, or go again.
use Rattle.std.proofs.Common.{◌≡◌, ◌+◌, ◌^◌, ◌<◌, ◌++◌, ◌∙◌, ℕ, List, Result, length, sym, ap, subst, arith}
use Rattle.std.specs.Prelude.{OnOk, OnErr}
use Rattle.std.specs.List.{insert}
use Rattle.pcm_base.specs.declared.failed.NoMemory.{NoMemory}
use Rattle.block_ledger.specs.Counts.{IsFreshCount, occurrences, times}
use Rattle.row_ledger.specs.declared.row.Listed.{Listed}
use Rattle.row_ledger.specs.Rows.{Adds, AreThere, Comes, Laid, counts, flat, like}
use Rattle.row_ledger.specs.Lists.{RowsState, IsGap, IsRising, IsRows, IsSame, ListComes, all_rows, counts_of, ids_or_none}
use Rattle.row_ledger.specs.Lists.{list_like, list_of, listed}
use Rattle.row_ledger.proofs.Changes.{Kept, fresh_held, same_ledger}
use Rattle.row_ledger.proofs.Comings.{any_err, on_ok}
use Rattle.row_ledger.proofs.Holding.{came, came_had, hold_err, hold_ok, hold_rows}
use Rattle.row_ledger.proofs.Room.{room_more}
use Rattle.row_ledger.proofs.row_ledger.RowLedger.hold_list.Goals as goal

pub invariant_of-self : goal.invariant_of-self
invariant_of-self c =
    subst (λ (ms : List Listed). IsRows c.self.inside.table ms) (sym c.reserve.ensures.items) c.self.invariant

pub returns-in_err-reserve-clause-err : goal.returns-in_err-reserve-clause-err
returns-in_err-reserve-clause-err c =
    let t = c.self.inside.table in
    let ns = c.reserve.new.self.items in
    let was : Kept t ns ≡ c.args.self.now =
    ap (λ (ms : List Listed). Kept t ms) c.reserve.ensures.items ∙ c.self.view_is in
    any_err c.from_residual.result (IsSame c.args.self.now (Kept t ns))
    (subst (λ (s : RowsState). IsSame s (Kept t ns)) was (same_ledger (Kept t ns)))

pub rows_of-base-requires : goal.rows_of-base-requires
rows_of-base-requires c = subst IsRising (sym (c.as_slice.ensures.value ∙ c.reserve.ensures.items)) c.self.invariant.rising

pub lay_like-laid-requires-clause-used : goal.lay_like-laid-requires-clause-used
lay_like-laid-requires-clause-used c = λ k some. omega (
  arith,
  some,
  c.self.invariant.uses k,
  c.rows_of-base.ensures.among k,
  ap (λ (ms : List Listed). times k (all_rows ms)) (c.as_slice.ensures.value ∙ c.reserve.ensures.items),
)

pub lay_like-laid-requires-clause-within : goal.lay_like-laid-requires-clause-within
lay_like-laid-requires-clause-within c =
    let t = c.self.inside.table in
    let ks = c.rows_of-base.result.now in
    let xs : flat t.rows ks ≡ ids_or_none (list_of c.args.self.now c.args.base) =
    c.rows_of-base.ensures.ids t.rows
    ∙ ap (λ (ms : List Listed). ids_or_none (listed t.rows ms c.args.base))
    (c.as_slice.ensures.value ∙ c.reserve.ensures.items)
    ∙ ap (λ (s : RowsState). ids_or_none (list_of s c.args.base)) c.self.view_is in
    omega (arith, ap length xs, c.requires.within)

pub lay_like-laid-requires-clause-there : goal.lay_like-laid-requires-clause-there
lay_like-laid-requires-clause-there c =
    let t = c.self.inside.table in
    let ks = c.rows_of-base.result.now in
    let xs : flat t.rows ks ≡ ids_or_none (list_of c.args.self.now c.args.base) =
    c.rows_of-base.ensures.ids t.rows
    ∙ ap (λ (ms : List Listed). ids_or_none (listed t.rows ms c.args.base))
    (c.as_slice.ensures.value ∙ c.reserve.ensures.items)
    ∙ ap (λ (s : RowsState). ids_or_none (list_of s c.args.base)) c.self.view_is in
    let ids = list_like c.args.self.now c.args.base c.args.front c.args.back c.args.middle.now in
    let same : like (flat t.rows ks) c.args.front c.args.back c.args.middle.now ≡ ids =
    ap (λ (ys : List ℕ). like ys c.args.front c.args.back c.args.middle.now) xs in
    subst (AreThere (counts t)) (sym same)
    (subst (λ (s : RowsState). AreThere (counts_of s) ids) (sym c.self.view_is) c.requires.there)

pub lay_like-laid-requires-clause-few : goal.lay_like-laid-requires-clause-few
lay_like-laid-requires-clause-few c =
    let t = c.self.inside.table in
    let ks = c.rows_of-base.result.now in
    let xs : flat t.rows ks ≡ ids_or_none (list_of c.args.self.now c.args.base) =
    c.rows_of-base.ensures.ids t.rows
    ∙ ap (λ (ms : List Listed). ids_or_none (listed t.rows ms c.args.base))
    (c.as_slice.ensures.value ∙ c.reserve.ensures.items)
    ∙ ap (λ (s : RowsState). ids_or_none (list_of s c.args.base)) c.self.view_is in
    let ids = list_like c.args.self.now c.args.base c.args.front c.args.back c.args.middle.now in
    let same : like (flat t.rows ks) c.args.front c.args.back c.args.middle.now ≡ ids =
    ap (λ (ys : List ℕ). like ys c.args.front c.args.back c.args.middle.now) xs in
    subst (λ (ys : List ℕ). (id : ℕ) → occurrences (counts t id) + times id ys < 2 ^ 128) (sym same)
    (subst (λ (s : RowsState). (id : ℕ) → occurrences (counts_of s id) + times id ids < 2 ^ 128) (sym c.self.view_is)
    c.requires.few)

pub finish-requires-clause-had : goal.finish-requires-clause-had
finish-requires-clause-had c =
    let t = c.self.inside.table in
    let ns = c.reserve.new.self.items in
    let e : ns ≡ c.self.inside.lists.items = c.reserve.ensures.items in
    let is : IsRows t ns = subst (λ (ms : List Listed). IsRows t ms) (sym e) c.self.invariant in
    let was : Kept t ns ≡ c.args.self.now = ap (λ (ms : List Listed). Kept t ms) e ∙ c.self.view_is in
    let r = c.lay_like-laid.result in
    let mid = c.lay_like-laid.new.table in
    let l : Listed = record { number = c.args.number; rows = c.lay_like-laid.new.out } in
    let ks = c.rows_of-base.result.now in
    let xs : flat t.rows ks ≡ ids_or_none (list_of c.args.self.now c.args.base) =
    c.rows_of-base.ensures.ids t.rows
    ∙ ap (λ (ms : List Listed). ids_or_none (listed t.rows ms c.args.base))
    (c.as_slice.ensures.value ∙ c.reserve.ensures.items)
    ∙ ap (λ (s : RowsState). ids_or_none (list_of s c.args.base)) c.self.view_is in
    let ids = list_like c.args.self.now c.args.base c.args.front c.args.back c.args.middle.now in
    let same : like (flat t.rows ks) c.args.front c.args.back c.args.middle.now ≡ ids =
    ap (λ (ys : List ℕ). like ys c.args.front c.args.back c.args.middle.now) xs in
    let laid = subst (λ (ys : List ℕ). OnOk r (Laid t mid ys l.rows.items ids)) c.new-rows.ensures.items
    (subst (λ (ys : List ℕ). OnOk r (Laid t mid c.new-rows.result.items l.rows.items ys)) same c.lay_like-laid.ensures.ok) in
    let adds = subst (λ (xs : List ℕ). OnErr r (Adds t mid xs l.rows.items)) c.new-rows.ensures.items
    c.lay_like-laid.ensures.err in
    came_had t mid l.rows.items (came r t mid l.rows.items ids laid adds)

pub finish-requires-clause-within : goal.finish-requires-clause-within
finish-requires-clause-within c =
    let t = c.self.inside.table in
    let ns = c.reserve.new.self.items in
    let e : ns ≡ c.self.inside.lists.items = c.reserve.ensures.items in
    let is : IsRows t ns = subst (λ (ms : List Listed). IsRows t ms) (sym e) c.self.invariant in
    let was : Kept t ns ≡ c.args.self.now = ap (λ (ms : List Listed). Kept t ms) e ∙ c.self.view_is in
    let place = c.gap-place.result in
    let gap : IsGap ns c.args.number place =
    subst (λ (s : RowsState). IsGap s.lists c.args.number place) (sym was) c.gap-place.ensures in
    omega (arith, gap.within, c.reserve.new.self.ok.0)

pub invariant_of-self-2 : goal.invariant_of-self-2
invariant_of-self-2 c =
    let t = c.self.inside.table in
    let ns = c.reserve.new.self.items in
    let e : ns ≡ c.self.inside.lists.items = c.reserve.ensures.items in
    let is : IsRows t ns = subst (λ (ms : List Listed). IsRows t ms) (sym e) c.self.invariant in
    let was : Kept t ns ≡ c.args.self.now = ap (λ (ms : List Listed). Kept t ms) e ∙ c.self.view_is in
    let place = c.gap-place.result in
    let gap : IsGap ns c.args.number place =
    subst (λ (s : RowsState). IsGap s.lists c.args.number place) (sym was) c.gap-place.ensures in
    let r = c.lay_like-laid.result in
    let mid = c.lay_like-laid.new.table in
    let l : Listed = record { number = c.args.number; rows = c.lay_like-laid.new.out } in
    let ks = c.rows_of-base.result.now in
    let xs : flat t.rows ks ≡ ids_or_none (list_of c.args.self.now c.args.base) =
    c.rows_of-base.ensures.ids t.rows
    ∙ ap (λ (ms : List Listed). ids_or_none (listed t.rows ms c.args.base))
    (c.as_slice.ensures.value ∙ c.reserve.ensures.items)
    ∙ ap (λ (s : RowsState). ids_or_none (list_of s c.args.base)) c.self.view_is in
    let ids = list_like c.args.self.now c.args.base c.args.front c.args.back c.args.middle.now in
    let same : like (flat t.rows ks) c.args.front c.args.back c.args.middle.now ≡ ids =
    ap (λ (ys : List ℕ). like ys c.args.front c.args.back c.args.middle.now) xs in
    let laid = subst (λ (ys : List ℕ). OnOk r (Laid t mid ys l.rows.items ids)) c.new-rows.ensures.items
    (subst (λ (ys : List ℕ). OnOk r (Laid t mid c.new-rows.result.items l.rows.items ys)) same c.lay_like-laid.ensures.ok) in
    let adds = subst (λ (xs : List ℕ). OnErr r (Adds t mid xs l.rows.items)) c.new-rows.ensures.items
    c.lay_like-laid.ensures.err in
    let new = c.finish.new.table in
    let ms = c.finish.new.lists.items in
    let kept = subst (λ (q : Result (Unit {0}) NoMemory). OnOk q ((new ≡ mid) × (ms ≡ insert ns place l)))
    c.finish.ensures.same c.finish.ensures.ok in
    let gone = subst (λ (q : Result (Unit {0}) NoMemory). OnErr q (Comes new mid l.rows.items × (ms ≡ ns)))
    c.finish.ensures.same c.finish.ensures.err in
    hold_rows t mid new ns ms place l ids is gap r laid adds kept gone

pub returns-clause-ok : goal.returns-clause-ok
returns-clause-ok c =
    let t = c.self.inside.table in
    let ns = c.reserve.new.self.items in
    let e : ns ≡ c.self.inside.lists.items = c.reserve.ensures.items in
    let is : IsRows t ns = subst (λ (ms : List Listed). IsRows t ms) (sym e) c.self.invariant in
    let was : Kept t ns ≡ c.args.self.now = ap (λ (ms : List Listed). Kept t ms) e ∙ c.self.view_is in
    let place = c.gap-place.result in
    let gap : IsGap ns c.args.number place =
    subst (λ (s : RowsState). IsGap s.lists c.args.number place) (sym was) c.gap-place.ensures in
    let r = c.lay_like-laid.result in
    let mid = c.lay_like-laid.new.table in
    let l : Listed = record { number = c.args.number; rows = c.lay_like-laid.new.out } in
    let ks = c.rows_of-base.result.now in
    let xs : flat t.rows ks ≡ ids_or_none (list_of c.args.self.now c.args.base) =
    c.rows_of-base.ensures.ids t.rows
    ∙ ap (λ (ms : List Listed). ids_or_none (listed t.rows ms c.args.base))
    (c.as_slice.ensures.value ∙ c.reserve.ensures.items)
    ∙ ap (λ (s : RowsState). ids_or_none (list_of s c.args.base)) c.self.view_is in
    let ids = list_like c.args.self.now c.args.base c.args.front c.args.back c.args.middle.now in
    let same : like (flat t.rows ks) c.args.front c.args.back c.args.middle.now ≡ ids =
    ap (λ (ys : List ℕ). like ys c.args.front c.args.back c.args.middle.now) xs in
    let laid = subst (λ (ys : List ℕ). OnOk r (Laid t mid ys l.rows.items ids)) c.new-rows.ensures.items
    (subst (λ (ys : List ℕ). OnOk r (Laid t mid c.new-rows.result.items l.rows.items ys)) same c.lay_like-laid.ensures.ok) in
    let adds = subst (λ (xs : List ℕ). OnErr r (Adds t mid xs l.rows.items)) c.new-rows.ensures.items
    c.lay_like-laid.ensures.err in
    let new = c.finish.new.table in
    let ms = c.finish.new.lists.items in
    let kept = subst (λ (q : Result (Unit {0}) NoMemory). OnOk q ((new ≡ mid) × (ms ≡ insert ns place l)))
    c.finish.ensures.same c.finish.ensures.ok in
    let gone = subst (λ (q : Result (Unit {0}) NoMemory). OnErr q (Comes new mid l.rows.items × (ms ≡ ns)))
    c.finish.ensures.same c.finish.ensures.err in
    subst (λ (q : Result (Unit {0}) NoMemory). OnOk q (ListComes c.args.self.now (Kept new ms) c.args.number ids))
    (sym c.finish.ensures.same)
    (subst (λ (s : RowsState). OnOk r (ListComes s (Kept new ms) c.args.number ids)) was
    (hold_ok t mid new ns ms place l ids is gap r laid adds kept c.lay_like-laid.ensures.room))

pub returns-clause-fresh : goal.returns-clause-fresh
returns-clause-fresh c =
    let old = c.args.self.now in
    let new = Kept c.finish.new.table c.finish.new.lists.items in
    let ids = list_like old c.args.base c.args.front c.args.back c.args.middle.now in
    on_ok c.finish.result (ListComes old new c.args.number ids)
    ((xs : List ℕ) → IsFreshCount xs (counts_of old) → IsFreshCount (ids ++ xs) (counts_of new))
    (λ comes xs fresh. fresh_held (counts_of old) (counts_of new) ids xs comes.held fresh) (returns-clause-ok c)

pub returns-clause-err : goal.returns-clause-err
returns-clause-err c =
    let t = c.self.inside.table in
    let ns = c.reserve.new.self.items in
    let e : ns ≡ c.self.inside.lists.items = c.reserve.ensures.items in
    let is : IsRows t ns = subst (λ (ms : List Listed). IsRows t ms) (sym e) c.self.invariant in
    let was : Kept t ns ≡ c.args.self.now = ap (λ (ms : List Listed). Kept t ms) e ∙ c.self.view_is in
    let place = c.gap-place.result in
    let gap : IsGap ns c.args.number place =
    subst (λ (s : RowsState). IsGap s.lists c.args.number place) (sym was) c.gap-place.ensures in
    let r = c.lay_like-laid.result in
    let mid = c.lay_like-laid.new.table in
    let l : Listed = record { number = c.args.number; rows = c.lay_like-laid.new.out } in
    let ks = c.rows_of-base.result.now in
    let xs : flat t.rows ks ≡ ids_or_none (list_of c.args.self.now c.args.base) =
    c.rows_of-base.ensures.ids t.rows
    ∙ ap (λ (ms : List Listed). ids_or_none (listed t.rows ms c.args.base))
    (c.as_slice.ensures.value ∙ c.reserve.ensures.items)
    ∙ ap (λ (s : RowsState). ids_or_none (list_of s c.args.base)) c.self.view_is in
    let ids = list_like c.args.self.now c.args.base c.args.front c.args.back c.args.middle.now in
    let same : like (flat t.rows ks) c.args.front c.args.back c.args.middle.now ≡ ids =
    ap (λ (ys : List ℕ). like ys c.args.front c.args.back c.args.middle.now) xs in
    let laid = subst (λ (ys : List ℕ). OnOk r (Laid t mid ys l.rows.items ids)) c.new-rows.ensures.items
    (subst (λ (ys : List ℕ). OnOk r (Laid t mid c.new-rows.result.items l.rows.items ys)) same c.lay_like-laid.ensures.ok) in
    let adds = subst (λ (xs : List ℕ). OnErr r (Adds t mid xs l.rows.items)) c.new-rows.ensures.items
    c.lay_like-laid.ensures.err in
    let new = c.finish.new.table in
    let ms = c.finish.new.lists.items in
    let kept = subst (λ (q : Result (Unit {0}) NoMemory). OnOk q ((new ≡ mid) × (ms ≡ insert ns place l)))
    c.finish.ensures.same c.finish.ensures.ok in
    let gone = subst (λ (q : Result (Unit {0}) NoMemory). OnErr q (Comes new mid l.rows.items × (ms ≡ ns)))
    c.finish.ensures.same c.finish.ensures.err in
    subst (λ (q : Result (Unit {0}) NoMemory). OnErr q (IsSame c.args.self.now (Kept new ms)))
    (sym c.finish.ensures.same)
    (subst (λ (s : RowsState). OnErr r (IsSame s (Kept new ms))) was
    (hold_err t mid new ns ms place l ids is gap r laid adds gone
    (room_more t.ledger mid.ledger new.ledger c.lay_like-laid.ensures.room c.finish.ensures.room)))
