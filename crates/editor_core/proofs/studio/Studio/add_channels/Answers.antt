-- A track for each channel is a step.
use Rattle.editor_core.proofs.Common.{◌≡◌, ◌∙◌, refl, sym, ap, subst, inr, ℕ, ◌+◌, ◌*◌, IfErr, Some, None, List, length}
use Rattle.editor_core.proofs.Common.{Err, Result, replicate, arith, err_from_is_err_and, after_err, Line, Refusal}
use Rattle.editor_core.proofs.Common.{Brought, MayBring, any_brought, IsUndamaged, brought_from, NewBlock}
use Rattle.editor_core.proofs.Common.{current_tracks, Took, as_reply, with_sound, Lasts, IsInsideOr, left_as}
use Rattle.editor_core.proofs.Common.{AllInOrder, core_of, total_of, lasts_idle, inside_counted, inside_or}
use Rattle.editor_core.proofs.Common.{channels_pass}
use Rattle.wav_pcm.specs.declared.heads.WavHead.{WavHead}
use Rattle.editor_imports.specs.Imports.{channels_refusal, parts_from}
use Rattle.editor_imports.proofs.ChannelLaws.{channels_plain, channels_tell, parts_counts, total_alike}
use Rattle.editor_imports.proofs.{ChannelSteps.channels_refused, HeadChannels.sound_edit, HeadChannels.sound_planned}
use Rattle.editor_imports.proofs.{ImportRefusals.counted_so, ImportRefusals.import_wants}
use Rattle.pcm_base.specs.declared.answer.Reply.TheVariants as reply
use Rattle.pcm_base.specs.declared.command.Command.TheVariants as command
use Rattle.pcm_base.specs.declared.refusal.Refusal.TheVariants as refusal
use Rattle.editor_core.proofs.studio.Studio.add_channels.Given.{Over}
use Rattle.editor_core.proofs.studio.Studio.add_channels.Goals.{After-new-reader}
use Rattle.editor_core.proofs.studio.Studio.add_channels.Goals as goal

-- ---- no memory for the counts

pub returns-in_err-counts-clause-took : goal.returns-in_err-counts-clause-took
returns-in_err-counts-clause-took g c =
    let s = core_of c.args.self.now in
    let name = c.args.name.now in
    let vault = c.args.vault.now in
    let any = any_brought (brought_from (g.V.Vault.tells vault) (g.V.Vault.holds vault) name c.args.head) in
    let r = err_from_is_err_and c.from_residual.result c.from_residual.ensures.1 in (
      any.0,
      any.1,
      λ sound has. inr (subst (λ x. Took g.S.Store s
          (with_sound (Line (command.Import name)) (left_as sound) (as_reply (λ (n : ℕ). reply.Done) x)) s)
          (sym (r.1 ∙ ap Err r.2))
          (import_wants g.S.Store s c.requires.studio (g.met.S.Store.may_fewer s.store) name sound c.requires.going)),
    )

pub returns-in_err-counts-clause-lasts : goal.returns-in_err-counts-clause-lasts
returns-in_err-counts-clause-lasts g c = λ sound.
    let s = core_of c.args.self.now in
    let name = c.args.name.now in
    after_err
    (λ x. Lasts g.S.Store s (with_sound (Line (command.Import name)) sound (as_reply (λ (n : ℕ). reply.Done) x)) s) _
    c.from_residual.result c.from_residual.ensures.1
    (lasts_idle g.S.Store s c.requires.studio (g.met.S.Store.may_fewer s.store)
    (Line (command.Import name)) tt sound refusal.NoMemory tt tt)

-- ---- a test refuses them

pub returns-in-Some-clause-took : goal.returns-in-Some-clause-took
returns-in-Some-clause-took g c =
    let s = core_of c.args.self.now in
    let name = c.args.name.now in
    let vault = c.args.vault.now in
    let why = c.in-Some.reason in
    let any = any_brought (brought_from (g.V.Vault.tells vault) (g.V.Vault.holds vault) name c.args.head) in
    let counts : List ℕ = replicate c.args.head.channels c.args.head.frames in
    let parts = parts_from any.0 0 counts in
    let counts_are = c.as_slice.ensures.value ∙ c.in_ok-counts.ensures ∙ sym (parts_counts any.0 0 counts) in
    let test = subst (λ (ns : List ℕ). channels_refusal (length (current_tracks s.history)) ns ≡ Some why) counts_are
    (sym c.channels_refusal.ensures ∙ c.in-Some.is) in (
      any.0,
      any.1,
      λ sound has. inr (channels_refused g.S.Store s c.requires.studio parts name sound has
          (g.met.S.Store.may_fewer s.store) c.requires.going why test),
    )

pub returns-in-Some-clause-lasts : goal.returns-in-Some-clause-lasts
returns-in-Some-clause-lasts g c = λ sound.
    let s = core_of c.args.self.now in
    lasts_idle g.S.Store s c.requires.studio (g.met.S.Store.may_fewer s.store)
    (Line (command.Import c.args.name.now)) tt sound c.in-Some.reason
    (channels_plain (length (current_tracks s.history)) c.as_slice.result.now c.in-Some.reason
    (sym c.channels_refusal.ensures ∙ c.in-Some.is)) tt

pub returns-in-Some-clause-valid : goal.returns-in-Some-clause-valid
returns-in-Some-clause-valid g c = λ held.
    let s = core_of c.args.self.now in
    (channels_tell (length (current_tracks s.history)) c.as_slice.result.now c.in-Some.reason
    (sym c.channels_refusal.ensures ∙ c.in-Some.is)).0

pub returns-in-Some-clause-device : goal.returns-in-Some-clause-device
returns-in-Some-clause-device g c =
    let s = core_of c.args.self.now in
    let vault = c.args.vault.now in
    inside_or (brought_from (g.V.Vault.tells vault) (g.V.Vault.holds vault) c.args.name.now c.args.head)
    c.in-Some.reason (channels_tell (length (current_tracks s.history)) c.as_slice.result.now c.in-Some.reason
    (sym c.channels_refusal.ensures ∙ c.in-Some.is)).1

pub returns-in-Some-clause-faults : goal.returns-in-Some-clause-faults
returns-in-Some-clause-faults g c =
    let s = core_of c.args.self.now in
    let why = c.in-Some.reason in
    let n = g.V.Vault.fault_count c.args.vault.now in
    let r : Result ℕ Refusal = Err why in
    counted_so r n n (inside_counted why n
    (channels_tell (length (current_tracks s.history)) c.as_slice.result.now why
    (sym c.channels_refusal.ensures ∙ c.in-Some.is)).1)

-- ---- there is no plan

pub returns-in_err-planned-clause-took : goal.returns-in_err-planned-clause-took
returns-in_err-planned-clause-took g c =
    let s = core_of c.args.self.now in
    let name = c.args.name.now in
    let vault = c.args.vault.now in
    let any = any_brought (brought_from (g.V.Vault.tells vault) (g.V.Vault.holds vault) name c.args.head) in
    let r = err_from_is_err_and c.from_residual-in_err-planned.result c.from_residual-in_err-planned.ensures.1 in (
      any.0,
      any.1,
      λ sound has. inr (subst (λ x. Took g.S.Store s
          (with_sound (Line (command.Import name)) (left_as sound) (as_reply (λ (n : ℕ). reply.Done) x)) s)
          (sym (r.1 ∙ ap Err (r.2 ∙ c.in_err-planned.ensures.err)))
          (import_wants g.S.Store s c.requires.studio (g.met.S.Store.may_fewer s.store) name sound c.requires.going)),
    )

pub returns-in_err-planned-clause-lasts : goal.returns-in_err-planned-clause-lasts
returns-in_err-planned-clause-lasts g c = λ sound.
    let s = core_of c.args.self.now in
    let name = c.args.name.now in
    let r = err_from_is_err_and c.from_residual-in_err-planned.result c.from_residual-in_err-planned.ensures.1 in
    subst (λ x. Lasts g.S.Store s (with_sound (Line (command.Import name)) sound (as_reply (λ (n : ℕ). reply.Done) x)) s)
    (sym (r.1 ∙ ap Err (r.2 ∙ c.in_err-planned.ensures.err)))
    (lasts_idle g.S.Store s c.requires.studio (g.met.S.Store.may_fewer s.store)
    (Line (command.Import name)) tt sound refusal.NoMemory tt tt)

pub returns-in_err-planned-clause-valid : goal.returns-in_err-planned-clause-valid
returns-in_err-planned-clause-valid g c = λ held.
    let r = err_from_is_err_and c.from_residual-in_err-planned.result c.from_residual-in_err-planned.ensures.1 in
    subst (λ x. IfErr x IsUndamaged) (sym (r.1 ∙ ap Err (r.2 ∙ c.in_err-planned.ensures.err))) tt

pub returns-in_err-planned-clause-device : goal.returns-in_err-planned-clause-device
returns-in_err-planned-clause-device g c =
    let vault = c.args.vault.now in
    let b = brought_from (g.V.Vault.tells vault) (g.V.Vault.holds vault) c.args.name.now c.args.head in
    let r = err_from_is_err_and c.from_residual-in_err-planned.result c.from_residual-in_err-planned.ensures.1 in
    subst (λ x. IfErr x (IsInsideOr b)) (sym (r.1 ∙ ap Err (r.2 ∙ c.in_err-planned.ensures.err))) tt

-- ---- they are added

pub carry_out-requires-clause-planned : goal.carry_out-requires-clause-planned
carry_out-requires-clause-planned g c = λ samples.
    let s = core_of c.args.self.now in
    let p = c.in_ok-planned.planned in
    let ns = c.as_slice-2.result.now in
    let pass = sym c.channels_refusal.ensures ∙ c.in_default.is in
    let reader = c.new-reader.result in
    let b = brought_from (g.V.Vault.tells reader.vault.now) (g.V.Vault.holds reader.vault.now) reader.name.now
    reader.head in
    let count = ap (λ (h : WavHead). h.channels * h.frames) c.new-reader.ensures.head in
    sound_planned g.S.Store s c.requires.studio c.args.head ns (c.as_slice-2.ensures.value ∙ c.in_ok-counts.ensures)
    (subst (λ (ks : List ℕ). channels_refusal (length (current_tracks s.history)) ks ≡ None)
    (c.as_slice.ensures.value ∙ sym c.as_slice-2.ensures.value) pass)
    p c.in_ok-planned.ensures.plan c.in_ok-planned.ensures.clip samples b count

pub carry_out-requires-clause-order : goal.carry_out-requires-clause-order
carry_out-requires-clause-order g c = λ quiet.
    let p = c.in_ok-planned.planned in
    let count = ap (λ (h : WavHead). h.channels * h.frames) c.new-reader.ensures.head in
    let total = ap total_of (c.as_slice-2.ensures.value ∙ c.in_ok-counts.ensures)
    ∙ total_alike c.args.head.channels c.args.head.frames ∙ sym count in
    subst (λ (k : ℕ). AllInOrder 0 k p.makes) total c.in_ok-planned.ensures.order

pub carry_out-requires-clause-next : goal.carry_out-requires-clause-next
carry_out-requires-clause-next g c =
    let s = core_of c.args.self.now in
    let plan = c.in_ok-planned.ensures.plan in
    plan.next_is ∙ plan.are.next_is ∙ ap (λ (bs : List NewBlock). s.next_block + length bs) (sym plan.makes_is)

pub carry_out-requires-clause-few : goal.carry_out-requires-clause-few
carry_out-requires-clause-few g c =
    let s = core_of c.args.self.now in
    let old = current_tracks s.history in
    let pass = channels_pass (length old) c.as_slice.result.now (sym c.channels_refusal.ensures ∙ c.in_default.is) in
    omega (
      arith,
      c.in_ok-planned.ensures.plan.tracks_is,
      pass.0,
      ap length c.as_slice.ensures.value,
      ap length c.as_slice-2.ensures.value,
    )

-- the reader brings what the vault has
same_sound : (g : Over) (c : After-new-reader g) → brought_from (g.V.Vault.tells c.new-reader.result.vault.now)
    (g.V.Vault.holds c.new-reader.result.vault.now) c.new-reader.result.name.now c.new-reader.result.head
    ≡ brought_from (g.V.Vault.tells c.args.vault.now) (g.V.Vault.holds c.args.vault.now) c.args.name.now c.args.head
same_sound g c = λ i. brought_from (g.V.Vault.tells (c.new-reader.ensures.vault i))
    (g.V.Vault.holds (c.new-reader.ensures.vault i)) (c.new-reader.ensures.name i) (c.new-reader.ensures.head i)

pub returns-clause-took : goal.returns-clause-took
returns-clause-took g c =
    let s = core_of c.args.self.now in
    let name = c.args.name.now in
    let p = c.in_ok-planned.planned in
    let ns = c.as_slice-2.result.now in
    let pass = sym c.channels_refusal.ensures ∙ c.in_default.is in
    let reader = c.new-reader.result in
    let b = brought_from (g.V.Vault.tells reader.vault.now) (g.V.Vault.holds reader.vault.now) reader.name.now
    reader.head in
    let by = c.carry_out.ensures.took in (
      by.0,
      subst (λ (d : Brought). MayBring d by.0) (same_sound g (goal.at.returns-clause-took g c).After-new-reader) by.1,
      λ sound has.
          by.2 (Line (command.Import name)) (left_as sound) (λ may. refl)
          (sound_edit g.S.Store s c.requires.studio c.args.head ns (c.as_slice-2.ensures.value ∙ c.in_ok-counts.ensures)
          (subst (λ (ks : List ℕ). channels_refusal (length (current_tracks s.history)) ks ≡ None)
          (c.as_slice.ensures.value ∙ sym c.as_slice-2.ensures.value) pass)
          p c.in_ok-planned.ensures.plan c.in_ok-planned.ensures.clip by.0 b name sound has),
    )

pub returns-clause-lasts : goal.returns-clause-lasts
returns-clause-lasts g c = λ sound.
    c.carry_out.ensures.lasts (Line (command.Import c.args.name.now)) sound (λ may. refl) refl

pub returns-clause-device : goal.returns-clause-device
returns-clause-device g c =
    subst (λ (d : Brought). IfErr c.carry_out.result (IsInsideOr d))
    (same_sound g (goal.at.returns-clause-device g c).After-new-reader) c.carry_out.ensures.device
