-- A sound is found, and its channels are added.
use Rattle.editor_core.proofs.Common.{◌≡◌, ◌⊎◌, ◌<◌, sym, subst, inl, inr, ℕ, List, Option, Some, None, Err, IsTrue}
use Rattle.editor_core.proofs.Common.{arith, after_err, Line, Brought, MayBring, brought_from, Took, as_reply}
use Rattle.editor_core.proofs.Common.{with_sound, Lasts, IfCutShort, left_as, IsHeld, IsStudio, core_of, lasts_idle}
use Rattle.std.specs.Prelude.{IfErr, IfOk}
use Rattle.pcm_base.specs.{declared.wav.WavFault.TheVariants.Truncated}
use Rattle.sound_import.specs.{Imported.import_refusal}
use Rattle.editor_state.specs.{Vaults.IsCutShort}
use Rattle.editor_imports.proofs.ShortSounds.{did_err, did_ok, known_did}
use Rattle.editor_imports.proofs.HeadChannels.{all_told, bytes_have, told_has}
use Rattle.editor_imports.proofs.ImportRefusals.{import_plain, import_refused, import_stopped, inside_short, told_cut}
use Rattle.editor_imports.proofs.ImportRefusals.{told_short}
use Rattle.pcm_base.specs.declared.answer.Reply.TheVariants as reply
use Rattle.pcm_base.specs.declared.command.Command.TheVariants as command
use Rattle.pcm_base.specs.declared.refusal.Refusal.TheVariants as refusal
use Rattle.editor_core.proofs.studio.Studio.import.Given.{Over}
use Rattle.editor_core.proofs.studio.Studio.import.Goals.{After-add_channels}
use Rattle.editor_core.proofs.studio.Studio.import.Goals as goal

-- ---- the studio had stopped

pub returns-in-Some-clause-took : goal.returns-in-Some-clause-took
returns-in-Some-clause-took g c = λ told.
    let s = core_of c.args.self.now in
    import_stopped g.S.Store s c.requires (g.met.S.Store.may_fewer s.store) c.args.name.now
    (g.V.Vault.holds c.args.vault.now c.args.name.now) c.in-Some.faults c.in-Some.is

pub returns-in-Some-clause-lasts : goal.returns-in-Some-clause-lasts
returns-in-Some-clause-lasts g c = λ sound.
    lasts_idle g.S.Store (core_of c.args.self.now) c.requires (g.met.S.Store.may_fewer c.args.self.now.reader.store)
    (Line (command.Import c.args.name.now)) tt sound (refusal.Stopped c.in-Some.faults) tt tt

pub returns-in-Some-clause-reason : goal.returns-in-Some-clause-reason
returns-in-Some-clause-reason g c =
    let s = core_of c.args.self.now in
    inr (
      None,
      import_stopped g.S.Store s c.requires (g.met.S.Store.may_fewer s.store) c.args.name.now None
          c.in-Some.faults c.in-Some.is,
    )

-- ---- the sound is not taken

pub returns-in_err-head-clause-took : goal.returns-in_err-head-clause-took
returns-in_err-head-clause-took g c = λ told.
    let s = core_of c.args.self.now in
    let name = c.args.name.now in
    let sound = g.V.Vault.holds c.args.vault.now name in
    let call = Line (command.Import name) in
    after_err (λ r. Took g.S.Store s (with_sound call (left_as sound) (as_reply (λ (n : ℕ). reply.Done) r))
    (record s { block_size = c.find.new.self })) _ c.from_residual.result c.from_residual.ensures.1
    (subst (λ (m : ℕ). Took g.S.Store s
    (with_sound call (left_as sound) (Err (import_refusal c.in_err-head.field-0.0))) (record s { block_size = m }))
    (sym c.find.ensures.same)
    (import_refused g.S.Store s c.requires (g.met.S.Store.may_fewer s.store) name sound c.in_default.is
    c.in_err-head.field-0.0 (c.in_err-head.ensures.refused told)))

pub returns-in_err-head-clause-lasts : goal.returns-in_err-head-clause-lasts
returns-in_err-head-clause-lasts g c = λ sound.
    let s = core_of c.args.self.now in
    let call = Line (command.Import c.args.name.now) in
    let why = import_refusal c.in_err-head.field-0.0 in
    after_err (λ r. Lasts g.S.Store s (with_sound call sound (as_reply (λ (n : ℕ). reply.Done) r))
    (record s { block_size = c.find.new.self })) _ c.from_residual.result c.from_residual.ensures.1
    (subst (λ (m : ℕ). Lasts g.S.Store s (with_sound call sound (Err why)) (record s { block_size = m }))
    (sym c.find.ensures.same)
    (lasts_idle g.S.Store s c.requires (g.met.S.Store.may_fewer s.store) call tt sound why
    (import_plain c.in_err-head.field-0.0) tt))

pub returns-in_err-head-clause-some : goal.returns-in_err-head-clause-some
returns-in_err-head-clause-some g c =
    after_err (λ r. IfOk r (λ n. (bytes : List ℕ) × Took g.S.Store (core_of c.args.self.now)
    (with_sound (Line (command.Import c.args.name.now)) (left_as (Some bytes)) (as_reply (λ (n : ℕ). reply.Done) r))
    (record (core_of c.args.self.now) { block_size = c.find.new.self }))) _ c.from_residual.result
    c.from_residual.ensures.1 tt

pub returns-in_err-head-clause-reason : goal.returns-in_err-head-clause-reason
returns-in_err-head-clause-reason g c =
    let s = core_of c.args.self.now in
    let name = c.args.name.now in
    let call = Line (command.Import name) in
    let why = c.in_err-head.field-0.0 in
    after_err (λ r. IfErr r (λ e. IsCutShort e ⊎ ((sound : Option (List ℕ)) × Took g.S.Store s
    (with_sound call (left_as sound) (as_reply (λ (n : ℕ). reply.Done) r))
    (record s { block_size = c.find.new.self })))) _ c.from_residual.result c.from_residual.ensures.1
    (elim c.in_err-head.ensures.reason [
      | inl cut ↦ inl (told_cut why cut)
      | inr some ↦ inr (
        some.0,
        subst (λ (m : ℕ). Took g.S.Store s (with_sound call (left_as some.0) (Err (import_refusal why)))
            (record s { block_size = m })) (sym c.find.ensures.same)
            (import_refused g.S.Store s c.requires (g.met.S.Store.may_fewer s.store) name some.0
            c.in_default.is why some.1),
      )
    ])

pub returns-in_err-head-clause-short : goal.returns-in_err-head-clause-short
returns-in_err-head-clause-short g c = λ want have.
    after_err (λ r. IfErr r (λ e. e ≡ refusal.BadWav (Truncated want have) → have < want)) _ c.from_residual.result
    c.from_residual.ensures.1 (told_short c.in_err-head.field-0.0 c.in_err-head.ensures.short want have)

-- ---- its channels are added

-- the vault of the search is that of before
same_sound : (g : Over) (c : After-add_channels g)
    → brought_from (g.V.Vault.tells c.find.new.vault) (g.V.Vault.holds c.find.new.vault) c.args.name.now
    c.in_ok-head.head ≡ brought_from (g.V.Vault.tells c.args.vault.now) (g.V.Vault.holds c.args.vault.now)
    c.args.name.now c.in_ok-head.head
same_sound g c = λ i. brought_from (c.find.ensures.tells i) (c.find.ensures.held i) c.args.name.now c.in_ok-head.head

-- a sound that it may hold is imported, or it is cut short
imported : (g : Over) (c : After-add_channels g) → IfCutShort c.add_channels.result ⊎ ((bytes : List ℕ)
    × Took g.S.Store (core_of c.args.self.now) (with_sound (Line (command.Import c.args.name.now))
    (left_as (Some bytes)) (as_reply (λ (n : ℕ). reply.Done) c.add_channels.result)) (core_of c.add_channels.new.self))
imported g c =
    let s = core_of c.args.self.now in
    let name = c.args.name.now in
    let head = c.in_ok-head.ensures in
    let by = c.add_channels.ensures.took in
    let bytes = bytes_have (g.V.Vault.tells c.args.vault.now) (g.V.Vault.holds c.args.vault.now) name c.in_ok-head.head
    s.rate head.found head.rate head.shape head.some (omega arith) by.0
    (subst (λ (d : Brought). MayBring d by.0) (same_sound g c) by.1) in elim (by.2 (Some bytes.0) bytes.1) [
      | inl cut ↦ inl cut
      | inr took ↦ inr (
        bytes.0,
        subst (λ (m : ℕ). Took g.S.Store (record s { block_size = m })
            (with_sound (Line (command.Import name)) (left_as (Some bytes.0))
            (as_reply (λ (n : ℕ). reply.Done) c.add_channels.result)) (core_of c.add_channels.new.self))
            c.find.ensures.same took,
      )
    ]

pub add_channels-requires-clause-studio : goal.add_channels-requires-clause-studio
add_channels-requires-clause-studio g c =
    let s = core_of c.args.self.now in
    subst (λ (m : ℕ). IsStudio g.S.Store (record s { block_size = m })) (sym c.find.ensures.same) c.requires

pub returns-clause-took : goal.returns-clause-took
returns-clause-took g c = λ told.
    let s = core_of c.args.self.now in
    let name = c.args.name.now in
    let old = c.args.vault.now in
    let head = c.in_ok-head.head in
    let sound = g.V.Vault.holds old name in
    let found = c.in_ok-head.ensures.found in
    let rate = c.in_ok-head.ensures.rate in
    let by = c.add_channels.ensures.took in
    let b = brought_from (g.V.Vault.tells c.find.new.vault) (g.V.Vault.holds c.find.new.vault) name head in
    let same = same_sound g (goal.at.returns-clause-took g c).After-add_channels in
    let may = subst (λ (d : Brought). MayBring d by.0) same by.1 in
    subst (λ (m : ℕ). Took g.S.Store (record s { block_size = m })
    (with_sound (Line (command.Import name)) (left_as sound)
    (as_reply (λ (n : ℕ). reply.Done) c.add_channels.result)) (core_of c.add_channels.new.self)) c.find.ensures.same
    (known_did b c.add_channels.result
    (subst (λ (d : Brought). IsTrue d.tells) (sym same)
    (all_told (g.V.Vault.tells old) (g.V.Vault.holds old) name head s.rate found rate told))
    c.add_channels.ensures.device
    (by.2 sound (told_has (g.V.Vault.tells old) (g.V.Vault.holds old) name head s.rate found rate told by.0 may)))

pub returns-clause-lasts : goal.returns-clause-lasts
returns-clause-lasts g c = λ sound.
    let s = core_of c.args.self.now in
    subst (λ (m : ℕ). Lasts g.S.Store (record s { block_size = m })
    (with_sound (Line (command.Import c.args.name.now)) sound
    (as_reply (λ (n : ℕ). reply.Done) c.add_channels.result)) (core_of c.add_channels.new.self)) c.find.ensures.same
    (c.add_channels.ensures.lasts sound)

pub returns-clause-some : goal.returns-clause-some
returns-clause-some g c =
    did_ok c.add_channels.result (imported g (goal.at.returns-clause-some g c).After-add_channels)

pub returns-clause-reason : goal.returns-clause-reason
returns-clause-reason g c =
    did_err c.add_channels.result (elim (imported g (goal.at.returns-clause-reason g c).After-add_channels) [
      | inl cut ↦ inl cut
      | inr some ↦ inr (Some some.0, some.1)
    ])

pub returns-clause-short : goal.returns-clause-short
returns-clause-short g c = λ want have.
    let vault = c.find.new.vault in
    inside_short (brought_from (g.V.Vault.tells vault) (g.V.Vault.holds vault) c.args.name.now c.in_ok-head.head)
    c.add_channels.result want have c.add_channels.ensures.device

pub returns-clause-valid : goal.returns-clause-valid
returns-clause-valid g c = λ held.
    let s = core_of c.args.self.now in
    c.add_channels.ensures.valid
    (subst (λ (m : ℕ). IsHeld g.S.Store (record s { block_size = m })) (sym c.find.ensures.same) held)
