-- Calls in order by file leave the same disk.
use Rattle.memory_disk.proofs.Common.{List, length, sym, ◌∙◌, ap, subst, AllHeld, history_of, image_of, Call}
use Rattle.memory_disk.specs.{ByFile.IsByFile}
use Rattle.memory_disk.proofs.FileCalls.{image_alike}
use Rattle.memory_disk.proofs.build.build.Goals as goal

pub build_sorted-requires-clause-held : goal.build_sorted-requires-clause-held
build_sorted-requires-clause-held c = subst (λ (l : List Call). AllHeld (length c.args.row.now) l)
    (sym c.deref.ensures.value) (c.in_ok-sorted.ensures.held (length c.args.row.now) c.requires)

pub build_sorted-requires-clause-by_file : goal.build_sorted-requires-clause-by_file
build_sorted-requires-clause-by_file c = subst IsByFile (sym c.deref.ensures.value) c.in_ok-sorted.ensures.rising

pub returns-clause-image : goal.returns-clause-image
returns-clause-image c =
    let row = c.args.row.now in
    let sorted = c.in_ok-sorted.sorted.items in
    c.in_ok-parts.ensures.image
    ∙ ap (λ (l : List Call). image_of c.args.choice (history_of row l)) c.deref.ensures.value
    ∙ image_alike row sorted c.args.calls.now c.in_ok-sorted.ensures.same c.args.choice
