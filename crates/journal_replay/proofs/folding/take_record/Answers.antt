-- The tests of the fields, and then what the history asks. What was read is said of the project without numbers.
use Rattle.journal_replay.proofs.Common.{◌≡◌, ℕ, List, Result, Ok, Err, map, sym, ap, subst, ◌∙◌, arith, History, Body}
use Rattle.journal_replay.proofs.Common.{BadBody, Finds, Saved, IsNextIn, after_body, current_tracks, unnumbered_body}
use Rattle.journal_replay.proofs.Common.{BodyShares, Track, unnumbered, before_at, field_tests, IsSaid, saved_of}
use Rattle.record_body.specs.{Valid.IsValidPoint}
use Rattle.record_body.proofs.{SavedBounds.current_valid, Unnumbered.current_alike, Unnumbered.sound_back}
use Rattle.journal_replay.specs.{Faults.says}
use Rattle.journal_replay.proofs.Numbered.{after_few, after_finds, after_numbers}
use Rattle.journal_replay.proofs.Valid.{taken, untaken}
use Rattle.journal_replay.proofs.folding.take_record.Goals.{After-current_of-current}
use Rattle.journal_replay.proofs.folding.take_record.Goals as goal

-- what was found of the fields, where these tracks are current
abbrev FindsIn : (v m : ℕ) (old : Saved) (at : ℕ) (bytes : List ℕ) → Result Body BadBody → List Track → Type 0
FindsIn v m old at bytes r ts = Finds {T = Body} (field_tests v m (before_at old at) ts bytes)
    (λ b. IsSaid v m (before_at old at) ts bytes (unnumbered_body b)) r

found_at : (c : After-current_of-current) (r : Result Body BadBody)
    → FindsIn c.args.version c.args.m (saved_of c.args.project.now) c.args.at c.args.bytes.now r
    (map unnumbered c.current_of-current.result.now)
    → FindsIn c.args.version c.args.m (saved_of c.args.project.now) c.args.at c.args.bytes.now r
    (current_tracks (saved_of c.args.project.now).history)
found_at c r =
    subst (FindsIn c.args.version c.args.m (saved_of c.args.project.now) c.args.at c.args.bytes.now r)
    (ap (map unnumbered) c.current_of-current.ensures
    ∙ sym (current_alike c.args.project.now.numbered.history.history))

pub read_record-requires : goal.read_record-requires
read_record-requires c =
    let h : History (List Track) = c.args.project.now.numbered.history.history in
    let old = saved_of c.args.project.now in
    subst (IsValidPoint c.args.m old.next_block old.next_track) (sym c.current_of-current.ensures)
    (sound_back c.args.m old.next_block old.next_track (current_tracks h)
    (subst (IsValidPoint c.args.m old.next_block old.next_track) (current_alike h)
    (current_valid c.args.m old.history.depth old.commit old c.requires.valid)))

pub take_body-requires-clause-shared : goal.take_body-requires-clause-shared
take_body-requires-clause-shared c =
    subst (λ (ts : List Track). BodyShares ts c.in-Ok.body) c.current_of-current.ensures c.in-Ok.ensures.shared

pub returns-in-Ok-clause-finds : goal.returns-in-Ok-clause-finds
returns-in-Ok-clause-finds c =
    let body = c.in-Ok.body in
    let found = found_at (goal.at.returns-in-Ok-clause-finds c).After-current_of-current (Ok body)
    c.in-Ok.ensures.found in
    taken c.args.version c.args.m (saved_of c.args.project.now) (saved_of c.take_body.new.project) c.args.at
    c.args.bytes.now (unnumbered_body body) c.take_body.result
    c.requires.least (omega (arith, c.ranges.m)) found.0 found.1
    (after_finds c.args.project.now c.take_body.new.project c.args.at body c.take_body.result c.take_body.ensures)

pub returns-in-Ok-clause-numbers : goal.returns-in-Ok-clause-numbers
returns-in-Ok-clause-numbers c =
    after_numbers c.args.project.now c.take_body.new.project c.args.at c.in-Ok.body c.take_body.result
    c.take_body.ensures

pub returns-in-Ok-clause-few : goal.returns-in-Ok-clause-few
returns-in-Ok-clause-few c =
    let body = c.in-Ok.body in
    let found = found_at (goal.at.returns-in-Ok-clause-few c).After-current_of-current (Ok body)
    c.in-Ok.ensures.found in
    after_few c.args.version c.args.m c.args.at c.args.project.now c.take_body.new.project c.args.bytes.now body
    c.take_body.result found.0 found.1
    c.take_body.ensures

pub returns-in-Err-clause-finds : goal.returns-in-Err-clause-finds
returns-in-Err-clause-finds c =
    let old = saved_of c.args.project.now in
    let before = before_at old c.args.at in
    let v = c.args.version in
    let bytes = c.args.bytes.now in
    let P : Body → Type 0 = λ b. IsSaid v c.args.m before (current_tracks old.history) bytes (unnumbered_body b) in
    let Q : Unit {0} → Type 0 = λ _. IsNextIn v c.args.m old bytes (says v old bytes)
    × (saved_of c.args.project.now ≡ after_body old (says v old bytes)) in
    untaken P Q v c.args.m old c.args.at bytes c.in-Err.fault
    (found_at (goal.at.returns-in-Err-clause-finds c).After-current_of-current (Err c.in-Err.fault)
    c.in-Err.ensures.found)
