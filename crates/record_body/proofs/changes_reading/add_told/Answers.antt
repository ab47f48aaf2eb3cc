-- The id, and then the track by the one that has it.
use Rattle.record_body.proofs.Common.{◌≡◌, ℕ, List, None, sym, ap, ◌∙◌, arith, field, first_failed, Track, AllBelow}
use Rattle.record_body.proofs.Common.{track_of, AllBelow-higher, change_tests, id_tests, Limits, all_pass}
use Rattle.record_body.proofs.{ToldAdds.adds_found, ToldAdds.adds_new, DiffTracks.finds_on}
use Rattle.record_body.proofs.changes_reading.add_told.Goals as goal

pub add_known-requires-clause-found : goal.add_known-requires-clause-found
add_known-requires-clause-found c = λ t here.
    ap (λ (n : ℕ). track_of n c.args.current.now) (sym c.u64_at.ensures) ∙ c.in-Some.ensures.found t here

-- ids below the one before are below the one that passed
above : (l : Limits) (from at : ℕ) (bytes : List ℕ) (ts : List Track) → first_failed (id_tests l from at bytes) ≡ None
    → AllBelow from ts → AllBelow (field at 8 bytes) ts
above l from at bytes ts none =
    let pass = all_pass (id_tests l from at bytes) none in
    AllBelow-higher from (field at 8 bytes) ts (omega (arith, pass.1.0))

pub add_known-requires-clause-above : goal.add_known-requires-clause-above
add_known-requires-clause-above c = above c.args.start.limits c.args.from c.args.start.at c.args.bytes.now
    c.args.point.now c.in_ok-test_id.ensures.0 c.requires.below

pub returns-in-Some : goal.returns-in-Some
returns-in-Some c = search (arith, c.in_ok-test_id.ensures.0, c.add_known.ensures, finds_on)

pub add_new-requires-clause-above : goal.add_new-requires-clause-above
add_new-requires-clause-above c = above c.args.start.limits c.args.from c.args.start.at c.args.bytes.now
    c.args.point.now c.in_ok-test_id.ensures.0 c.requires.below

pub returns-in-None : goal.returns-in-None
returns-in-None c =
    let l = c.args.start.limits in
    let at = c.args.start.at in
    let bytes = c.args.bytes.now in
    let now = c.args.current.now in
    let none : track_of (field at 8 bytes) now ≡ None =
    ap (λ (n : ℕ). track_of n now) (sym c.u64_at.ensures) ∙ c.in-None.ensures.none in
    finds_on (id_tests l c.args.from at bytes) (change_tests l (track_of (field at 8 bytes) now) at bytes) _
    c.add_new.result c.in_ok-test_id.ensures.0
    (adds_found l now at bytes c.args.point.now c.add_new.new.point None c.add_new.result none
    (adds_new l now at bytes c.args.point.now c.add_new.new.point c.add_new.result c.add_new.ensures))
