-- The points of the header, or none.
use Rattle.journal_replay.proofs.Common.{◌≡◌, ◌≤◌, ◌∙◌, ℕ, [], sym, ap, subst, arith, MatchResult, kept_none, Base}
use Rattle.journal_replay.proofs.Common.{unnumbered_history, new_project, saved_of}
use Rattle.journal_replay.proofs.{Based.brings_none, Based.brings_headed, Few.none_draw, Pointed.heading_base}
use Rattle.journal_replay.proofs.{Pointed.heading_format}
use Rattle.project_journal.specs.declared.fault.JournalFault.TheVariants as journal
use Rattle.journal_replay.proofs.folding.bring.Goals as goal

pub no_records-requires : goal.no_records-requires
no_records-requires g c =
    let format = heading_format g.S.Store c.args.store.now c.args.reader.now [] c.requires.heading in
    omega (arith, format.depth_least, c.depth.ensures)

pub returns-then-base-eq0-clause-brings : goal.returns-then-base-eq0-clause-brings
returns-then-base-eq0-clause-brings g c =
    brings_none g.S.Store c.args.store.now c.args.m c.args.reader.now c.no_records.result c.requires.heading
    (sym (ap (λ (b : Base). b.count) c.base-base.ensures) ∙ c.if-base-eq0.true)
    (subst (λ (n : ℕ). MatchResult c.no_records.result (λ p. saved_of p ≡ new_project n) (λ e. e ≡ journal.NoMemory))
    c.depth.ensures c.no_records.ensures.kept)

pub returns-then-base-eq0-clause-few : goal.returns-then-base-eq0-clause-few
returns-then-base-eq0-clause-few g c =
    none_draw g.S.Store c.args.store.now c.args.reader.now c.no_records.result c.requires.heading
    (sym (ap (λ (b : Base). b.count) c.base-base.ensures) ∙ c.if-base-eq0.true) c.no_records.ensures.first

pub returns-then-base-eq0-clause-kept : goal.returns-then-base-eq0-clause-kept
returns-then-base-eq0-clause-kept g c = kept_none c.args.store.now (g.met.S.Store.may_fewer c.args.store.now)

pub returns-clause-brings : goal.returns-clause-brings
returns-clause-brings g c =
    let later = c.in_ok-numbered.ensures.later in
    let new = c.read_points.new.reader in
    let same = c.base-base.ensures ∙ sym later.base in
    let some : 1 ≤ new.base.count = omega (arith, c.if-base-eq0.false, ap (λ (b : Base). b.count) same) in
    brings_headed g.S.Store c.read_points.new.store c.args.m new
    (unnumbered_history c.in_ok-numbered.numbered.history.history) c.base-base.result same
    c.in_ok-numbered.ensures.brings some (c.requires.size ∙ sym later.block_size)

pub returns-clause-commit : goal.returns-clause-commit
returns-clause-commit g c =
    let base = heading_base g.S.Store c.args.store.now c.args.reader.now [] c.requires.heading in
    omega (arith, base.commit, ap (λ (b : Base). b.commit) c.base-base.ensures)
