-- The lengths of records that come together.
use Rattle.editor_core.proofs.Common.{◌≡◌, inl, inr, ◌⊎◌, sym, subst, ℕ, IfErr, after_err, Refusal, Body}
use Rattle.editor_core.proofs.Common.{current_tracks, BodyAgrees, again_agrees, Writing, all_len, whole_len, writing}
use Rattle.editor_core.proofs.Common.{core_of, whole_total}
use Rattle.editor_state.specs.Adding.{Exceeds, ExceedsBy}
use Rattle.editor_commits.proofs.RecordRows.{rows_total}
use Rattle.editor_core.proofs.KeptBodies.{body_keeps_none}
use Rattle.pcm_base.specs.declared.refusal.Refusal.TheVariants as refusal
use Rattle.editor_core.proofs.studio.Studio.may_write.Goals as goal

pub body_size-one-requires-clause-numbers : goal.body_size-one-requires-clause-numbers
body_size-one-requires-clause-numbers g c =
    let current = current_tracks (core_of c.args.self.now).history in
    subst (λ (b : Body). BodyAgrees current b) (sym c.in_ok-again.ensures)
    (again_agrees current c.args.body.now c.requires.again)

pub body_size-one-requires-clause-kept : goal.body_size-one-requires-clause-kept
body_size-one-requires-clause-kept g c =
    body_keeps_none c.none.result (current_tracks (core_of c.args.self.now).history) c.in_ok-again.again
    c.none.ensures.front c.none.ensures.back

pub returns-in_err-may_add-clause-err : goal.returns-in_err-may_add-clause-err
returns-in_err-may_add-clause-err g c =
    let s = core_of c.args.self.now in
    let w : Writing = writing c.args.more c.args.body.now in
    let why = c.in_err-may_add.field-0.0 in
    let whole : c.len_together.result ≡ whole_len s w =
    whole_total (current_tracks s.history) c.args.body.now c.in_ok-again.again c.args.more c.body_len.result
    c.body_len-2.result c.len_together.result c.in_ok-again.ensures c.body_len.ensures.value c.body_len-2.ensures.value
    c.len_together.ensures.value in
    let over : Exceeds s.journal_end (whole_len s w) why =
    subst (λ (n : ℕ). Exceeds s.journal_end n why) whole c.in_err-may_add.ensures.err in
    after_err (λ r. IfErr r (λ (x : Refusal). (x ≡ refusal.NoMemory) ⊎ ExceedsBy s.journal_end (whole_len s w)
    (all_len s w) x)) _ c.from_residual-in_err-may_add.result c.from_residual-in_err-may_add.ensures.1 (inr (inl over))

pub returns-in_err-may_add-2-clause-err : goal.returns-in_err-may_add-2-clause-err
returns-in_err-may_add-2-clause-err g c =
    let s = core_of c.args.self.now in
    let w : Writing = writing c.args.more c.args.body.now in
    let why = c.in_err-may_add-2.field-0.0 in
    let all : c.len_together-len.result ≡ all_len s w =
    rows_total s.version (current_tracks s.history) c.args.body.now c.in_ok-again.again c.args.more c.body_size-one.result
    c.body_size.result c.len_together-len.result c.in_ok-again.ensures c.body_size-one.ensures.value
    c.body_size.ensures.value c.len_together-len.ensures.value in
    let over : Exceeds s.journal_end (all_len s w) why =
    subst (λ (n : ℕ). Exceeds s.journal_end n why) all c.in_err-may_add-2.ensures.err in
    after_err (λ r. IfErr r (λ (x : Refusal). (x ≡ refusal.NoMemory) ⊎ ExceedsBy s.journal_end (whole_len s w)
    (all_len s w) x)) _ c.from_residual-in_err-may_add-2.result c.from_residual-in_err-may_add-2.ensures.1
    (inr (inr over))

pub returns-clause-value : goal.returns-clause-value
returns-clause-value g c =
    let s = core_of c.args.self.now in
    rows_total s.version (current_tracks s.history) c.args.body.now c.in_ok-again.again c.args.more c.body_size-one.result
    c.body_size.result c.len_together-len.result c.in_ok-again.ensures c.body_size-one.ensures.value
    c.body_size.ensures.value c.len_together-len.ensures.value
