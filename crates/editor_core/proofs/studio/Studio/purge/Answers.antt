-- A purge is a step.
use Rattle.editor_core.proofs.Common.{◌≡◌, ◌∙◌, refl, sym, ap, subst, ◌≤◌, [], ◌∷◌, length, Err, arith, Some, IfErr}
use Rattle.editor_core.proofs.Common.{List, after_err, Line, Refusal, BadRange, History, count_of, spelling, Track}
use Rattle.editor_core.proofs.Common.{silent, Adds, single, Core, core_of, history_tracks, Becomes, MayBecome, fails}
use Rattle.editor_core.proofs.Common.{none_made, pages_of_blocks}
use Rattle.std.proofs.Common.{nat_lt, nat_le, ◌&&◌, not}
use Rattle.pcm_base.specs.{History.purged, Refusals.bad_range}
use Rattle.record_body.specs.{declared.body.Body.TheVariants.Purge}
use Rattle.editor_commits.proofs.MoveSteps.{purge_call, purges, moves, may_purge, purged_counts, added_range, own_range}
use Rattle.editor_commits.proofs.{HistoryMoves.in_range, HistoryMoves.purged_by}
use Rattle.pcm_base.specs.declared.command.Command.TheVariants as command
use Rattle.editor_core.proofs.MoveAnswers.{IsMove, refused, unadded}
use Rattle.editor_core.proofs.studio.Studio.purge.Given.{Over}
use Rattle.editor_core.proofs.studio.Studio.purge.Goals as goal
use Rattle.layout_uses.specs.Tallies.{uses_of}
use Rattle.row_ledger.specs.Lists.{counts_of}

-- a test refused it
early : (g : Over) (c : goal.After-from_residual g) → IsMove g.S.Store (core_of c.args.self.now)
    (Line (command.Purge c.args.count)) c.from_residual.result (core_of c.args.self.now)
early g c =
    let s = core_of c.args.self.now in
    let n = c.args.count in
    refused g.S.Store s c.requires (g.met.S.Store.may_fewer s.store) (Line (command.Purge n)) 9
    (not (nat_lt 0 n && nat_le n s.history.cursor)) BadRange c.purge_refusal.result c.in_err-may_commit.field-0.0 tt tt
    (purge_call n) (omega arith) (λ held. (refl, refl)) c.purge_refusal.ensures.value c.purge_refusal.ensures.value
    c.in_err-may_commit.ensures c.from_residual.result c.from_residual.ensures.1

-- its record was not added
late : (g : Over) (c : goal.After-from_residual-in_err-commit_small g) → IsMove g.S.Store (core_of c.args.self.now)
    (Line (command.Purge c.args.count)) c.from_residual-in_err-commit_small.result (core_of c.commit_small.new.self)
late g c =
    let s = core_of c.args.self.now in
    let mid = core_of c.commit_small.new.self in
    let may = c.in_ok-may_commit.ensures in
    let why = c.in_err-commit_small.field-0.0 in
    let own = sym (c.purge_refusal.ensures.value) ∙ may.1 in
    let some = in_range c.args.count s.history.cursor own in
    let adds = subst (λ b. Adds g.S.Store s (b ∷ []) 1 (length b) (Err why) mid) c.purge_body.ensures
    c.in_err-commit_small.ensures.record in
    unadded g.S.Store s mid (Line (command.Purge c.args.count)) why c.from_residual-in_err-commit_small.result
    c.from_residual-in_err-commit_small.ensures.1
    (fails g.S.Store s [] (Line (command.Purge c.args.count)) silent 0 (single (Purge c.args.count))
    (purged s.history c.args.count) s.clipboard s.next_track c.requires (none_made g.S.Store s)
    (purges g.S.Store s c.requires c.args.count some.0 some.1 c.ranges.count.fits) may.0 own may.2
    (omega (arith, may.3)) (omega (arith, c.requires.layouts)) why mid (g.met.S.Store.may_fewer s.store) adds)
    c.in_err-commit_small.ensures.memory c.in_err-commit_small.ensures.undamaged

pub returns-in_err-may_commit-clause-took : goal.returns-in_err-may_commit-clause-took
returns-in_err-may_commit-clause-took g c = (early g c).took

pub returns-in_err-may_commit-clause-number : goal.returns-in_err-may_commit-clause-number
returns-in_err-may_commit-clause-number g c = (early g c).number

pub returns-in_err-may_commit-clause-memory : goal.returns-in_err-may_commit-clause-memory
returns-in_err-may_commit-clause-memory g c = (early g c).memory

pub returns-in_err-may_commit-clause-undamaged : goal.returns-in_err-may_commit-clause-undamaged
returns-in_err-may_commit-clause-undamaged g c = (early g c).undamaged

pub returns-in_err-commit_small : goal.returns-in_err-commit_small
returns-in_err-commit_small g c =
    let s = core_of c.args.self.now in
    let why = c.in_err-commit_small.field-0.0 in
    let is = late g c in record {
      took = is.took;
      number = is.number;
      memory = is.memory;
      undamaged = is.undamaged;
      range =
          let is : why ≡ BadRange → bad_range 0 c.args.count s.history.cursor ≡ Some BadRange =
          λ bad. absurd (added_range g.S.Store s (core_of c.commit_small.new.self) _ 1 _ why
          c.in_err-commit_small.ensures.record bad) in
          after_err
          (λ r. IfErr r (λ (w : Refusal). w ≡ BadRange → bad_range 0 c.args.count s.history.cursor ≡ Some BadRange))
          _ c.from_residual-in_err-commit_small.result c.from_residual-in_err-commit_small.ensures.1 is;
    }

pub returns-in_err-may_commit-clause-range : goal.returns-in_err-may_commit-clause-range
returns-in_err-may_commit-clause-range g c =
    let s = core_of c.args.self.now in
    let why = c.in_err-may_commit.field-0.0 in
    let is : why ≡ BadRange → bad_range 0 c.args.count s.history.cursor ≡ Some BadRange =
    λ bad. sym c.purge_refusal.ensures.value
    ∙ own_range s.stopped c.purge_refusal.result s.next_track 0 s.commit_number why c.in_err-may_commit.ensures bad in
    after_err (λ r. IfErr r (λ (w : Refusal). w ≡ BadRange → bad_range 0 c.args.count s.history.cursor ≡ Some BadRange))
    _ c.from_residual.result c.from_residual.ensures.1 is

pub count_purge-requires : goal.count_purge-requires
count_purge-requires g c =
    let s = core_of c.args.self.now in
    let n = c.args.count in
    let mid = core_of c.commit_small.new.self in
    let adds = subst (λ r. Adds g.S.Store s (spelling (Purge n) ∷ []) 1 9 r mid) c.in_ok-commit_small.was (subst
    (λ b. Adds g.S.Store s (b ∷ []) 1 (length b) c.commit_small.result mid) c.purge_body.ensures
    c.commit_small.ensures.record) in
    let same : mid.history ≡ s.history = ap (λ (z : Core g.row.S.Denot). z.history) adds.fields.0 in record {
      within =
          let may = c.in_ok-may_commit.ensures in
          let own = sym c.purge_refusal.ensures.value ∙ may.1 in
          let some = in_range n s.history.cursor own in
          subst (λ (h : History (List Track)). n ≤ h.cursor) (sym same) some.1;
      counted =
          let tally = c.commit_small.new.self.tally in
          subst (λ (h : History (List Track)). MayBecome [] (history_tracks h) tally) (sym same)
          (may_purge g.S.Store s c.requires tally (ap (λ (z : Core g.row.S.Denot). z.uses) adds.fields.0)
          (ap (λ (z : Core g.row.S.Denot). z.counts) adds.fields.0));
    }

pub returns-clause-took : goal.returns-clause-took
returns-clause-took g c =
    let s = core_of c.args.self.now in
    let n = c.args.count in
    let mid = core_of c.commit_small.new.self in
    let may = c.in_ok-may_commit.ensures in
    let own = sym c.purge_refusal.ensures.value ∙ may.1 in
    let some = in_range n s.history.cursor own in
    let adds = subst (λ r. Adds g.S.Store s (spelling (Purge n) ∷ []) 1 9 r mid) c.in_ok-commit_small.was (subst
    (λ b. Adds g.S.Store s (b ∷ []) 1 (length b) c.commit_small.result mid) c.purge_body.ensures
    c.commit_small.ensures.record) in
    let same : mid.history ≡ s.history = ap (λ (z : Core g.row.S.Denot). z.history) adds.fields.0 in
    let uses_are : mid.uses ≡ s.uses = ap (λ (z : Core g.row.S.Denot). z.uses) adds.fields.0 in
    let counts_are : mid.counts ≡ s.counts = ap (λ (z : Core g.row.S.Denot). z.counts) adds.fields.0 in
    let tally = c.commit_small.new.self.tally in
    let tally' = c.count_purge.new.tally in
    let becomes = subst (λ (h : History (List Track)).
    Becomes [] (history_tracks h) (history_tracks (purged h n)) tally tally') same c.count_purge.ensures in
    let few' = subst (λ (h : History (List Track)). n ≤ h.cursor) (sym same) some.1 in
    let gone = purged_by n c.commit_small.new.self.history c.purge.new.self c.purge.result some.0 few'
    c.purge.ensures.ok c.purge.ensures.err in
    moves g.S.Store s c.requires (Line (command.Purge n)) (Purge n) (purged s.history n) mid c.purge.new.self.history
    (uses_of tally') (counts_of tally'.ledger) (purges g.S.Store s c.requires n some.0 some.1 c.ranges.count.fits)
    may.0 own refl may.3 adds (gone ∙ ap (λ (h : History (List Track)). purged h n) same)
    (purged_counts g.S.Store s c.requires n tally tally' uses_are counts_are becomes)

pub commit_small-requires-clause-file : goal.commit_small-requires-clause-file
commit_small-requires-clause-file g c = c.requires.journal.among

pub commit_small-requires-clause-pages : goal.commit_small-requires-clause-pages
commit_small-requires-clause-pages g c =
    let s = core_of c.args.self.now in
    pages_of_blocks s.next_block s.cache c.requires.pages
