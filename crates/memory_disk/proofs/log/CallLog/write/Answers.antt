-- The write stands in the list and in its index.
use Rattle.memory_disk.proofs.Common.{◌≡◌, ◌+◌, ◌-◌, ◌∷◌, ℕ, None, List, length, refl, sym, ap, ◌∙◌, arith, false≢true}
use Rattle.memory_disk.proofs.Common.{vec_len, Step, Wrote, reads_of, history_of, MakesFile, reads_at, file_at, Log}
use Rattle.memory_disk.proofs.Common.{files_after}
use Rattle.memory_disk.specs.{Ram.with_write}
use Rattle.memory_disk.proofs.Grown.{on_ok, indexed_grown, made_absent}
use Rattle.memory_disk.proofs.Places.{size_none, not_both, heads_fit, files_are, full_files, not_full}
use Rattle.memory_disk.proofs.log.CallLog.write.Goals as goal

pub returns-in_err-take_place-clause-full : goal.returns-in_err-take_place-clause-full
returns-in_err-take_place-clause-full c =
    let full = c.in_err-take_place.ensures.full.0 refl in (
      (λ _. full_files c.args.self.now c.args.file (length c.args.bytes.now) c.self.inside.files_left c.size.result
          (ap (λ (log : Log). log.files_left) (sym c.self.view_is)) c.size.ensures.size full.0 full.1),
      (λ _. c.from_residual.ensures.0),
    )

pub note-requires-clause-indexed : goal.note-requires-clause-indexed
note-requires-clause-indexed c =
    let was = c.self.invariant in
    let written = c.note_write.ensures.room (omega (arith, was.calls)) (omega (arith, was.bytes)) in
    let seen : vec_len c.self.inside.index.links ≡ length c.self.inside.calls.items = omega (arith, was.indexed.long) in
    rw (c.deref-2.ensures.value, c.deref.ensures.value, seen) (indexed_grown _ _ _ _ was.held
    (on_ok c.note_write.result written c.note_write.ensures.kept)
    (on_ok c.note_write.result written c.note_write.ensures.earlier) _ _ was.indexed)

pub invariant_of-self-2 : goal.invariant_of-self-2
invariant_of-self-2 c =
    let row = c.self.inside.row.items in
    let calls = c.self.inside.calls.items in
    let longer = c.note_write.new.row.items in
    let more = c.note_write.new.calls.items in
    let was = c.self.invariant in
    let written = c.note_write.ensures.room (omega (arith, was.calls)) (omega (arith, was.bytes)) in
    let kept = on_ok c.note_write.result written c.note_write.ensures.kept in
    let earlier = on_ok c.note_write.result written c.note_write.ensures.earlier in
    let count = on_ok c.note_write.result written c.note_write.ensures.calls in
    let bytes = on_ok c.note_write.result written c.note_write.ensures.bytes in
    let file = on_ok c.note_write.result written c.note_write.ensures.file in
    let long : length more ≡ length calls + 1 = omega (arith, count) in
    let seen : vec_len c.self.inside.index.links ≡ length calls = omega (arith, was.indexed.long) in
    let all : vec_len c.self.inside.index.links + 1 ≡ length more = omega (arith, long, seen) in
    let absent : MakesFile (reads_at c.deref-2.result.now c.deref.result.now) (file_at c.deref.result.now)
    (vec_len c.self.inside.index.links) → reads_of c.args.self.now.history c.args.file ≡ None =
    λ makes. ap (λ (log : Log). reads_of log.history c.args.file) (sym c.self.view_is)
    ∙ made_absent row longer calls more was.held kept earlier c.args.file file
    (rw (c.deref-2.ensures.value, c.deref.ensures.value, seen) at makes) in
    let place : MakesFile (reads_at c.deref-2.result.now c.deref.result.now) (file_at c.deref.result.now)
    (vec_len c.self.inside.index.links) → c.self.inside.files_left ≡ c.take_place.new.files_left + 1 =
    λ makes. c.in_ok-take_place.ensures.absent (size_none _ c.size.result c.size.ensures.size (absent makes)) in
    let noted = c.note.ensures.room (omega (arith, was.links))
    (λ makes. let left = place makes in omega (arith, was.files, left)) in
    let links = on_ok c.note.result noted c.note.ensures.len in
    record {
      held = c.note_write.ensures.held;
      bytes = omega (arith, was.bytes, bytes, c.note_write.ensures.bytes_room);
      calls = omega (arith, was.calls, count, c.note_write.ensures.calls_room);
      files = heads_fit c.size.result _ _ _ _ _ _ was.files c.note.ensures.heads_room c.note.ensures.more_files
          c.in_ok-take_place.ensures.there c.in_ok-take_place.ensures.absent
          (λ some. c.note.ensures.files
          (λ makes. not_both c.size.result some (size_none _ c.size.result c.size.ensures.size (absent makes))));
      links = omega (arith, was.links, links, c.note.ensures.links_room);
      indexed = rw (c.deref-2.ensures.value, c.deref.ensures.value, all) at
          (on_ok c.note.result noted c.note.ensures.indexed);
    }

pub returns-clause-full : goal.returns-clause-full
returns-clause-full c = (
  (λ err. absurd (false≢true err)),
  (λ full. absurd (not_full c.args.self.now c.args.file (length c.args.bytes.now) c.self.inside.calls_left
      c.self.inside.bytes_left c.self.inside.files_left c.take_place.new.files_left c.size.result
      (ap (λ (log : Log). log.calls_left) (sym c.self.view_is))
      (ap (λ (log : Log). log.bytes_left) (sym c.self.view_is))
      (ap (λ (log : Log). log.files_left) (sym c.self.view_is)) (λ zero. c.if-self-eq0.false zero)
      c.if-self-bytes.false c.size.ensures.size c.in_ok-take_place.ensures.absent full)),
)

pub returns-clause-ok : goal.returns-clause-ok
returns-clause-ok c =
    let inside = c.self.inside in
    let was = c.self.invariant in
    let written = c.note_write.ensures.room (omega (arith, was.calls)) (omega (arith, was.bytes)) in
    let history = on_ok c.note_write.result written c.note_write.ensures.ok in
    let bytes_left = inside.bytes_left - length c.args.bytes.now in
    let calls_left = inside.calls_left - 1 in
    let files : c.take_place.new.files_left
    ≡ files_after inside.files_left (reads_of (history_of inside.row.items inside.calls.items) c.args.file) =
    files_are (reads_of c.args.self.now.history c.args.file) c.size.result inside.files_left c.take_place.new.files_left
    c.size.ensures.size c.in_ok-take_place.ensures.there c.in_ok-take_place.ensures.absent
    ∙ ap (λ (log : Log). files_after inside.files_left (reads_of log.history c.args.file)) (sym c.self.view_is) in
    let new : Log = record {
      history = history_of c.note_write.new.row.items c.note_write.new.calls.items;
      files_left = c.take_place.new.files_left;
      bytes_left = bytes_left;
      calls_left = calls_left;
    } in
    ap (λ (h : List Step). record new { history = h }) history
    ∙ ap (λ (left : ℕ). record new {
      history = Wrote c.args.file c.args.at c.args.bytes.now
          ∷ history_of inside.row.items inside.calls.items;
      files_left = left;
    }) files
    ∙ ap (λ (log : Log). with_write log c.args.file c.args.at c.args.bytes.now) c.self.view_is
