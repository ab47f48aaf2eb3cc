-- One call more.
use Rattle.memory_disk.proofs.Common.{ℕ, List, set, refl, ap, ◌∙◌, arith, vec_len, MakesFile}
use Rattle.memory_disk.proofs.Common.{reads_at, file_at, no_call}
use Rattle.std.specs.{Prelude.Vec, declared.alloc.Global.Global}
use Rattle.memory_disk.proofs.CallsLemmas.{held_at}
use Rattle.memory_disk.proofs.Noted.{within_links, noted_follow, noted_made, noted_absent, makes}
use Rattle.memory_disk.proofs.index.Index.note.Goals.{In-Some-size_after}
use Rattle.memory_disk.proofs.index.Index.note.Goals as goal

-- the call makes its file
makes_file : (c : In-Some-size_after) → MakesFile (reads_at c.args.row.now c.args.calls.now) (file_at c.args.calls.now)
    (vec_len c.args.self.now.links)
makes_file c =
    let none = rw c.deref.ensures.value at (c.in-None.ensures.absent refl) in
    makes c.args.row.now c.args.calls.now c.len-at.result _ c.len-at.ensures (omega arith) _ _ c.requires.indexed
    c.in-Some-size_after.size none c.in-Some-size_after.ensures.size

pub size_after-size-requires : goal.size_after-size-requires
size_after-size-requires c = held_at _ c.args.calls.now _ no_call (omega arith) c.requires.held

pub size_after-requires : goal.size_after-requires
size_after-requires c = held_at _ c.args.calls.now _ no_call (omega arith) c.requires.held

pub follow-requires-clause-within : goal.follow-requires-clause-within
follow-requires-clause-within c =
    let found = rw c.deref.ensures.value at c.in-Some.ensures.there.0 in
    let within = within_links c.args.row.now c.args.calls.now c.len-at.result _ c.len-at.ensures
    (omega arith) _ _ c.requires.indexed c.in-Some.head found c.in-Some.ensures.there.1 in
    omega (arith, within)

pub returns-in-Some-clause-indexed : goal.returns-in-Some-clause-indexed
returns-in-Some-clause-indexed c =
    let found = rw c.deref.ensures.value at c.in-Some.ensures.there.0 in
    noted_follow c.args.row.now c.args.calls.now c.len-at.result _ c.len-at.ensures (omega arith) _ _ c.requires.indexed
    c.follow.new.self.heads.items _
    c.follow.new.self.links.items c.in-Some.head c.size_after-size.result found c.in-Some.ensures.there.1
    c.size_after-size.ensures.size c.size_after-size.ensures.bounded c.follow.ensures.rising c.follow.ensures.heads
    (c.follow.ensures.links
    ∙ ap (λ (l : List ℕ). set l c.in-Some.head.last c.len-at.result) c.in_ok-push.ensures.items)

pub returns-in_ok-make-in-Some-size_after-clause-indexed : goal.returns-in_ok-make-in-Some-size_after-clause-indexed
returns-in_ok-make-in-Some-size_after-clause-indexed c =
    let none = rw c.deref.ensures.value at (c.in-None.ensures.absent refl) in
    let after = c.in_ok-make-in-Some-size_after.ensures in
    noted_made c.args.row.now c.args.calls.now c.len-at.result _ c.len-at.ensures (omega arith) _ _ c.requires.indexed
    c.make.new.self.heads.items _ c.make.new.self.links.items c.in-Some-size_after.size none
    c.in-Some-size_after.ensures.size (c.in-Some-size_after.ensures.bounded tt) after.rising after.heads
    (ap (λ (v : Vec ℕ Global). v.items) after.links ∙ c.in_ok-push.ensures.items)

pub returns-in_ok-make-in-Some-size_after-clause-files : goal.returns-in_ok-make-in-Some-size_after-clause-files
returns-in_ok-make-in-Some-size_after-clause-files c = λ not.
    absurd (not (makes_file (goal.at.returns-in_ok-make-in-Some-size_after-clause-files c).In-Some-size_after))

pub returns-in_err-make-in-Some-size_after-clause-room : goal.returns-in_err-make-in-Some-size_after-clause-room
returns-in_err-make-in-Some-size_after-clause-room c = λ links heads.
    let bad = c.in_err-make-in-Some-size_after.ensures.room
    (heads (makes_file (goal.at.returns-in_err-make-in-Some-size_after-clause-room c).In-Some-size_after)) in
    cc bad

pub returns-in_err-make-in-Some-size_after-clause-files : goal.returns-in_err-make-in-Some-size_after-clause-files
returns-in_err-make-in-Some-size_after-clause-files c = λ not.
    absurd (not (makes_file (goal.at.returns-in_err-make-in-Some-size_after-clause-files c).In-Some-size_after))

pub returns-in-None-size_after-clause-indexed : goal.returns-in-None-size_after-clause-indexed
returns-in-None-size_after-clause-indexed c =
    let none = rw c.deref.ensures.value at (c.in-None.ensures.absent refl) in
    noted_absent c.args.row.now c.args.calls.now c.len-at.result _ c.len-at.ensures (omega arith) _ _ c.requires.indexed
    _ c.push.new.self.items none c.in-None-size_after.ensures.size c.in_ok-push.ensures.items
