-- One point without tracks.
use Rattle.journal_replay.proofs.Common.{List, length, sym, ap, subst, ◌∙◌, arith, Track, AreUnnumbered}
use Rattle.pcm_base.specs.History.{history_of_one}
use Rattle.journal_replay.proofs.project.Project.new.Goals as goal

pub new-requires-clause-plain : goal.new-requires-clause-plain
new-requires-clause-plain c = subst AreUnnumbered (sym c.new-none.ensures) tt

pub returns-in-Ok-clause-kept : goal.returns-in-Ok-clause-kept
returns-in-Ok-clause-kept c =
    let history = c.in-Ok.ensures.same
    ∙ ap (λ (ts : List Track). history_of_one ts 0 c.args.depth) c.new-none.ensures in
    λ i. record { history = history i; next_block = 16; next_track = 1; commit = 0 }

pub returns-in-Ok-clause-first : goal.returns-in-Ok-clause-first
returns-in-Ok-clause-first c =
    omega (arith, c.in-Ok.ensures.most, ap (λ (ts : List Track). length ts) c.new-none.ensures)
