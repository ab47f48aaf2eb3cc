-- Rows before, new rows, and rows behind.
use Rattle.std.proofs.Common.{◌≡◌, ◌+◌, ◌-◌, ◌^◌, ◌<◌, ◌++◌, ◌∙◌, ℕ, List, length, take, drop, sym, subst}
use Rattle.std.proofs.lemmas.List.{take_rest}
use Rattle.block_ledger.specs.Counts.{occurrences, times}
use Rattle.row_ledger.specs.Rows.{Adds, AreThere, AreUsed, Laid, counts, flat, spliced}
use Rattle.row_ledger.proofs.{Room.room_more, Room.room_none, Turns.comes_none}
use Rattle.row_ledger.proofs.Comings.{any_err, adds_more, adds_same, laid_adds, laid_more, on_ok, on_err, used_still}
use Rattle.row_ledger.proofs.Relaid.{laid_spliced, new_between, new_there, still_few, still_there, used_drop, used_take}
use Rattle.row_ledger.proofs.laying.lay_spliced.Goals as goal

pub returns-in_err-ids-clause-err : goal.returns-in_err-ids-clause-err
returns-in_err-ids-clause-err c =
    let t = c.args.table.now in
    let out = c.args.out.now.items in
    any_err c.from_residual.result (Adds t t out out) (adds_same t t out (comes_none t))

pub returns-in_err-ids-clause-room : goal.returns-in_err-ids-clause-room
returns-in_err-ids-clause-room c = room_none c.args.table.now.ledger

pub share-requires : goal.share-requires
share-requires c = used_take c.args.table.now.rows c.args.rows.now c.span_of-span.result.start.row c.requires.used

pub returns-in_err-share-clause-err : goal.returns-in_err-share-clause-err
returns-in_err-share-clause-err c =
    let out = c.args.out.now.items in
    any_err c.from_residual-in_err-share.result (Adds c.args.table.now c.share.new.table out c.share.new.out.items)
    c.in_err-share.ensures.err

pub returns-in_err-share-clause-room : goal.returns-in_err-share-clause-room
returns-in_err-share-clause-room c = c.share.ensures.room

pub lay-requires-clause-there : goal.lay-requires-clause-there
lay-requires-clause-there c =
    let old = c.args.table.now in
    let ks = c.args.rows.now in
    let span = c.span_of-span.result in
    let facts = c.span_of-span.ensures in
    let xs = flat old.rows ks in
    let new = new_between xs span.start.at c.args.from c.args.to span.end.at c.args.middle.now in
    let same : c.as_slice.result.now ≡ new = c.as_slice.ensures.value ∙ c.in_ok-ids.ensures.ids in
    subst (AreThere (counts c.share.new.table)) (sym same)
    (still_there old c.share.new.table c.args.out.now.items c.share.new.out.items
    (flat old.rows (take span.start.row ks)) new c.in_ok-share.ensures.ok
    (new_there old ks span.start.at c.args.from c.args.to span.end.at c.args.middle.now c.new_ids.ensures.there
    c.requires.used c.requires.there))

pub lay-requires-clause-few : goal.lay-requires-clause-few
lay-requires-clause-few c =
    let old = c.args.table.now in
    let ks = c.args.rows.now in
    let span = c.span_of-span.result in
    let facts = c.span_of-span.ensures in
    let xs = flat old.rows ks in
    let new = new_between xs span.start.at c.args.from c.args.to span.end.at c.args.middle.now in
    let same : c.as_slice.result.now ≡ new = c.as_slice.ensures.value ∙ c.in_ok-ids.ensures.ids in
    subst (λ (ys : List ℕ). (id : ℕ) → occurrences (counts c.share.new.table id) + times id ys < 2 ^ 128) (sym same)
    (still_few old c.share.new.table ks c.args.out.now.items c.share.new.out.items span.start.row span.start.at
    span.end.row span.end.at c.args.from c.args.to c.args.middle.now facts.start facts.end facts.before facts.after
    c.in_ok-share.ensures.ok c.requires.few)

pub returns-in_err-lay-clause-err : goal.returns-in_err-lay-clause-err
returns-in_err-lay-clause-err c =
    let old = c.args.table.now in
    let out = c.args.out.now.items in
    any_err c.from_residual-in_err-lay.result (Adds old c.lay.new.table out c.lay.new.out.items)
    (adds_more old c.share.new.table c.lay.new.table out c.share.new.out.items c.lay.new.out.items
    (laid_adds old c.share.new.table out c.share.new.out.items
    (flat old.rows (take c.span_of-span.result.start.row c.args.rows.now)) c.in_ok-share.ensures.ok)
    c.in_err-lay.ensures.err)

pub returns-in_err-lay-clause-room : goal.returns-in_err-lay-clause-room
returns-in_err-lay-clause-room c = room_more c.args.table.now.ledger c.share.new.table.ledger c.lay.new.table.ledger
    c.share.ensures.room c.lay.ensures.room

pub share-requires-2 : goal.share-requires-2
share-requires-2 c =
    let old = c.args.table.now in
    let ks = c.args.rows.now in
    let span = c.span_of-span.result in
    let facts = c.span_of-span.ensures in
    let out = c.args.out.now.items in
    let both = laid_more old c.share.new.table c.lay.new.table out c.share.new.out.items c.lay.new.out.items
    (flat old.rows (take span.start.row ks)) c.as_slice.result.now c.in_ok-share.ensures.ok c.in_ok-lay.ensures.ok in
    subst (AreUsed c.lay.new.table.rows) (sym (take_rest ks span.end.row))
    (used_drop c.lay.new.table.rows ks span.end.row
    (used_still old c.lay.new.table both.added ks both.come c.requires.used))

pub returns-clause-ok : goal.returns-clause-ok
returns-clause-ok c =
    let old = c.args.table.now in
    let ks = c.args.rows.now in
    let span = c.span_of-span.result in
    let facts = c.span_of-span.ensures in
    let xs = flat old.rows ks in
    let new = new_between xs span.start.at c.args.from c.args.to span.end.at c.args.middle.now in
    let same : c.as_slice.result.now ≡ new = c.as_slice.ensures.value ∙ c.in_ok-ids.ensures.ids in
    let out = c.args.out.now.items in
    let end = c.share-2.new.out.items in
    let mid = c.lay.new.table in
    on_ok c.share-2.result
    (Laid mid c.share-2.new.table c.lay.new.out.items end
    (flat mid.rows (take (length ks - span.end.row) (drop span.end.row ks))))
    (Laid old c.share-2.new.table out end (spliced xs c.args.from c.args.to c.args.middle.now))
    (λ three. laid_spliced old c.share.new.table mid c.share-2.new.table ks out c.share.new.out.items
    c.lay.new.out.items end span.start.row span.start.at span.end.row span.end.at c.args.from c.args.to
    c.args.middle.now c.as_slice.result.now facts.start facts.end facts.before facts.after c.requires.used same
    c.in_ok-share.ensures.ok c.in_ok-lay.ensures.ok
    (subst (λ (js : List ℕ). Laid mid c.share-2.new.table c.lay.new.out.items end (flat mid.rows js))
    (take_rest ks span.end.row) three))
    c.share-2.ensures.ok

pub returns-clause-err : goal.returns-clause-err
returns-clause-err c =
    let old = c.args.table.now in
    let ks = c.args.rows.now in
    let span = c.span_of-span.result in
    let facts = c.span_of-span.ensures in
    let out = c.args.out.now.items in
    let both = laid_more old c.share.new.table c.lay.new.table out c.share.new.out.items c.lay.new.out.items
    (flat old.rows (take span.start.row ks)) c.as_slice.result.now c.in_ok-share.ensures.ok c.in_ok-lay.ensures.ok in
    on_err c.share-2.result
    (Adds c.lay.new.table c.share-2.new.table c.lay.new.out.items c.share-2.new.out.items)
    (Adds old c.share-2.new.table out c.share-2.new.out.items)
    (λ three. adds_more old c.lay.new.table c.share-2.new.table out c.lay.new.out.items c.share-2.new.out.items
    (laid_adds old c.lay.new.table out c.lay.new.out.items
    (flat old.rows (take span.start.row ks) ++ c.as_slice.result.now) both) three)
    c.share-2.ensures.err

pub returns-clause-room : goal.returns-clause-room
returns-clause-room c = room_more c.args.table.now.ledger c.lay.new.table.ledger c.share-2.new.table.ledger
    (room_more c.args.table.now.ledger c.share.new.table.ledger c.lay.new.table.ledger c.share.ensures.room
    c.lay.ensures.room) c.share-2.ensures.room
