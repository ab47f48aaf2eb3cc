-- The file is removed, written and synced.
use Rattle.memory_disk.proofs.Common.{◌≡◌, ◌∷◌, ℕ, Option, List, sym, subst, ap, ◌∙◌, Wrote, Synced, Removed}
use Rattle.memory_disk.proofs.Common.{history_of, items_of, SetsFile, Call}
use Rattle.memory_disk.proofs.Builds.{sets_written}
use Rattle.memory_disk.proofs.build.set_file.Goals as goal

pub returns-in_ok-note_mark-in-Some-2-clause-sets : goal.returns-in_ok-note_mark-in-Some-2-clause-sets
returns-in_ok-note_mark-in-Some-2-clause-sets c =
    let file = c.args.file in
    let row = c.args.row.now.items in
    let calls = c.args.calls.now.items in
    let one = c.note_mark-in-Some.new.calls.items in
    let two = c.note_write.new.calls.items in
    let longer = c.note_write.new.row.items in
    let same_row = c.in_ok-reserve-in-Some.ensures.items in
    let removed = subst (λ (r : List ℕ). history_of r one ≡ Removed file ∷ history_of r c.reserve.new.self.items)
    (c.deref-in-Some.ensures.value ∙ same_row) c.in_ok-note_mark-in-Some.ensures.ok
    ∙ ap (λ (l : List Call). Removed file ∷ history_of row l) c.in_ok-reserve.ensures.items in
    let wrote = c.in_ok-note_write-in-Some.ensures.ok
    ∙ ap (λ (b : List ℕ). Wrote file 0 b ∷ history_of c.reserve-in-Some.new.self.items one)
    c.deref-in-Some-2.ensures.value
    ∙ ap (λ (r : List ℕ). Wrote file 0 c.in-Some.bytes.items ∷ history_of r one) same_row in
    let synced =
    subst (λ (r : List ℕ). history_of r c.note_mark-in-Some-2.new.calls.items ≡ Synced file ∷ history_of r two)
    c.deref-in-Some-3.ensures.value c.in_ok-note_mark-in-Some-2.ensures.ok in
    subst (λ (o : Option (List ℕ)). SetsFile file o (history_of row calls)
    (history_of longer c.note_mark-in-Some-2.new.calls.items)) (sym (ap items_of c.in-Some.is))
    (sets_written file c.in-Some.bytes.items (history_of row calls) (history_of row one)
    (history_of longer two) _ removed wrote synced)
