-- The call stands in the list and in its index.
use Rattle.memory_disk.proofs.Common.{◌≡◌, ◌+◌, ◌∷◌, [], ℕ, List, length, subst, arith, take_all, vec_len, AllHeld}
use Rattle.memory_disk.proofs.Common.{step_by, history_of, MakesFile, reads_at, file_at}
use Rattle.memory_disk.proofs.Grown.{on_ok, indexed_grown, mark_makes_none}
use Rattle.memory_disk.proofs.log.CallLog.mark.Goals as goal

pub note-requires-clause-indexed : goal.note-requires-clause-indexed
note-requires-clause-indexed c =
    let row = c.self.inside.row.items in
    let calls = c.self.inside.calls.items in
    let was = c.self.invariant in
    let earlier =
    on_ok c.note_mark.result (c.note_mark.ensures.room (omega (arith, was.calls))) c.note_mark.ensures.earlier in
    let seen : vec_len c.self.inside.index.links ≡ length calls = omega (arith, was.indexed.long) in
    rw (c.deref-3.ensures.value, c.deref-2.ensures.value, seen) (indexed_grown row row calls
    c.note_mark.new.calls.items was.held (take_all (length row) row (omega arith)) earlier _ _ was.indexed)

pub invariant_of-self : goal.invariant_of-self
invariant_of-self c =
    let row = c.self.inside.row.items in
    let calls = c.self.inside.calls.items in
    let more = c.note_mark.new.calls.items in
    let was = c.self.invariant in
    let marked = c.note_mark.ensures.room (omega (arith, was.calls)) in
    let earlier = on_ok c.note_mark.result marked c.note_mark.ensures.earlier in
    let count = on_ok c.note_mark.result marked c.note_mark.ensures.calls in
    let file = on_ok c.note_mark.result marked c.note_mark.ensures.file in
    let long : length more ≡ length calls + 1 = omega (arith, count) in
    let seen : vec_len c.self.inside.index.links ≡ length calls = omega (arith, was.indexed.long) in
    let all : vec_len c.self.inside.index.links + 1 ≡ length more = omega (arith, long, seen) in
    let history = subst (λ (r : List ℕ). history_of r more ≡ step_by c.args.kind c.args.file 0 [] ∷ history_of r calls)
    c.deref.ensures.value (on_ok c.note_mark.result marked c.note_mark.ensures.ok) in
    let none = mark_makes_none row row calls more was.held
    (take_all (length row) row (omega arith)) earlier c.args.kind c.args.file c.requires file long history in
    let no_file : MakesFile (reads_at c.deref-3.result.now c.deref-2.result.now)
    (file_at c.deref-2.result.now) (vec_len c.self.inside.index.links)
    → ⊥ = λ makes. none (rw (c.deref-3.ensures.value, c.deref-2.ensures.value, seen) at makes) in
    let noted = c.note.ensures.room (omega (arith, was.links)) (λ makes. absurd (no_file makes)) in
    let files = c.note.ensures.files no_file in
    let links = on_ok c.note.result noted c.note.ensures.len in
    record {
      held = subst (λ (r : List ℕ). AllHeld (length r) more) c.deref.ensures.value c.note_mark.ensures.held;
      bytes = was.bytes;
      calls = omega (arith, was.calls, count, c.note_mark.ensures.calls_room);
      files = omega (arith, was.files, files, c.note.ensures.heads_room);
      links = omega (arith, was.links, links, c.note.ensures.links_room);
      indexed = rw (c.deref-3.ensures.value, c.deref-2.ensures.value, all) at
          (on_ok c.note.result noted c.note.ensures.indexed);
    }
