-- Nothing was asked of the disk, or the record was added whose body was written.
use Rattle.editor_core.proofs.Common.{◌≤◌, ◌∷◌, [], refl, sym, subst, List, ℕ, after_err, all_bytes, all_len}
use Rattle.editor_core.proofs.Common.{current_tracks, body_bytes, single, whole_len, Adds, AddsBody, Core, is_block, AllPass, core_of}
use Rattle.editor_commits.proofs.AppendFaults.{adds_nothing, exceeds}
use Rattle.pcm_base.specs.declared.refusal.Refusal.TheVariants as refusal
use Rattle.editor_core.proofs.KeptBodies.{body_keeps_none}
use Rattle.editor_core.proofs.studio.Studio.commit_body.Goals as goal

pub may_record-requires-clause-kept : goal.may_record-requires-clause-kept
may_record-requires-clause-kept g c =
    body_keeps_none c.none.result (current_tracks (core_of c.args.self.now).history) c.args.body.now
    c.none.ensures.front c.none.ensures.back

pub write_record-requires-clause-kept : goal.write_record-requires-clause-kept
write_record-requires-clause-kept g c =
    body_keeps_none c.none-2.result (current_tracks (core_of c.args.self.now).history) c.args.body.now
    c.none-2.ensures.front c.none-2.ensures.back

pub returns-in_err-may_record-clause-record : goal.returns-in_err-may_record-clause-record
returns-in_err-may_record-clause-record g c =
    let s = core_of c.args.self.now in
    let body = single c.args.body.now in
    let why = c.in_err-may_record.field-0.0 in
    after_err (λ r. AddsBody g.S.Store s body r s) _ c.from_residual.result c.from_residual.ensures.1
    (adds_nothing g.S.Store s (all_bytes s body) 1 (whole_len s body) why (g.met.S.Store.may_fewer s.store)
    (exceeds (Unit {0}) g.S.Store s (whole_len s body) 1 (all_len s body) why c.in_err-may_record.ensures.err))

pub returns-in_err-write_record-clause-record : goal.returns-in_err-write_record-clause-record
returns-in_err-write_record-clause-record g c =
    let s = core_of c.args.self.now in
    let body = single c.args.body.now in
    subst (λ (z : Core g.row.S.Denot). AddsBody g.S.Store s body c.from_residual-in_err-write_record.result z)
    (sym c.write_record.ensures.same)
    (after_err (λ r. AddsBody g.S.Store s body r s) _ c.from_residual-in_err-write_record.result
    c.from_residual-in_err-write_record.ensures.1
    (adds_nothing g.S.Store s (all_bytes s body) 1 (whole_len s body) refusal.NoMemory
    (g.met.S.Store.may_fewer s.store) refl))

pub returns-clause-record : goal.returns-clause-record
returns-clause-record g c =
    let body = c.args.body.now in
    let bytes = body_bytes (core_of c.args.self.now) body in
    let new = core_of c.commit_written.new.self in
    let whole = whole_len (core_of c.args.self.now) (single body) in
    subst (λ (z : Core g.row.S.Denot). Adds g.S.Store z (bytes ∷ []) 1 whole c.commit_written.result new)
    c.write_record.ensures.same
    (subst (λ (b : List ℕ). Adds g.S.Store (core_of c.write_record.new.self) (b ∷ []) 1 whole
    c.commit_written.result new) c.in_ok-write_record.ensures.body (c.commit_written.ensures.record whole))

pub commit_written-requires-clause-file : goal.commit_written-requires-clause-file
commit_written-requires-clause-file g c =
    subst (λ (z : Core g.row.S.Denot). z.file ≤ 1) (sym c.write_record.ensures.same) c.requires.file

pub commit_written-requires-clause-pages : goal.commit_written-requires-clause-pages
commit_written-requires-clause-pages g c =
    subst (λ (z : Core g.row.S.Denot). AllPass is_block z.cache) (sym c.write_record.ensures.same) c.requires.pages
