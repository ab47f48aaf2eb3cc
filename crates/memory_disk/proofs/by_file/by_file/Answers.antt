-- The sort is stable.
use Rattle.memory_disk.proofs.Common.{◌≡◌, List, sym, ◌∙◌, ap, subst, rules, Held, AllHeld, calls_of, Call}
use Rattle.std.proofs.lemmas.List.Sorted.{answers_always, IsNonDecreasingBy-from_sort_by_key, All-permutation}
use Rattle.memory_disk.proofs.FileCalls.{stable_calls, each_held, all_held}
use Rattle.memory_disk.proofs.by_file.by_file.Goals as goal

pub returns-clause-rising : goal.returns-clause-rising
returns-clause-rising c = IsNonDecreasingBy-from_sort_by_key (λ (call : Call). call.file) c.sort_by_key.new.self.items
    c.in_ok-sort_by_key.ensures.sorted (λ a r q k. search rules)

pub returns-clause-same : goal.returns-clause-same
returns-clause-same c = λ f.
    let copied : c.extend_from_slice.new.self.items ≡ c.args.calls.now = search rules in
    stable_calls _ c.sort_by_key.new.self.items (c.in_ok-sort_by_key.ensures.stable (λ (call : Call). call.file)
    (answers_always _ _ _ (λ g a r h k. search rules))) f
    ∙ ap (λ (l : List Call). calls_of f l) copied

pub returns-clause-held : goal.returns-clause-held
returns-clause-held c = λ n held.
    let copied : c.extend_from_slice.new.self.items ≡ c.args.calls.now = search rules in
    all_held n c.sort_by_key.new.self.items
    (All-permutation
    (Held n) c.extend_from_slice.new.self.items c.sort_by_key.new.self.items c.in_ok-sort_by_key.ensures.permutation
    (each_held n c.extend_from_slice.new.self.items (subst (λ (l : List Call). AllHeld n l) (sym copied) held)))
