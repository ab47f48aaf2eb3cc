-- The line is a ramp where it is asked as one, and each other line is one call of the studio.
use Rattle.std.proofs.Common.{ℕ, sym, subst}
use Rattle.pcm_base.specs.declared.answer.Reply.TheVariants as reply
use Rattle.editor_core.specs.Core.{core_of}
use Rattle.memory_project.specs.Lines.{IsRamp}
use Rattle.memory_project.proofs.LineLemmas.{asked_call, asked_look, never_damaged}
use Rattle.memory_project.proofs.lines.carry_line.Goals as goal

pub ask_ramp-requires-clause-kind : goal.ask_ramp-requires-clause-kind
ask_ramp-requires-clause-kind g c = subst IsRamp (sym c.in-Ramp.is) tt

pub returns-in-Track : goal.returns-in-Track
returns-in-Track g c = asked_call g.S.Store (core_of c.args.studio.now) (core_of c.track.new.self) (λ (n : ℕ). reply.Done)
    c.track.result c.without_value.result c.in-Track.is c.track.ensures.took c.without_value.ensures
    (λ held. c.track.ensures.undamaged)

pub returns-in-Delete : goal.returns-in-Delete
returns-in-Delete g c = asked_call g.S.Store (core_of c.args.studio.now) (core_of c.edit_range.new.self)
    (λ (n : ℕ). reply.Done) c.edit_range.result c.without_value-in-Delete.result c.in-Delete.is
    c.edit_range.ensures.took c.without_value-in-Delete.ensures c.edit_range.ensures.valid

pub returns-in-Gain : goal.returns-in-Gain
returns-in-Gain g c = asked_call g.S.Store (core_of c.args.studio.now) (core_of c.edit_range-in-Gain.new.self)
    (λ (n : ℕ). reply.Done) c.edit_range-in-Gain.result c.without_value-in-Gain.result c.in-Gain.is
    c.edit_range-in-Gain.ensures.took c.without_value-in-Gain.ensures c.edit_range-in-Gain.ensures.valid

pub returns-in-Silence : goal.returns-in-Silence
returns-in-Silence g c = asked_call g.S.Store (core_of c.args.studio.now) (core_of c.edit_range-in-Silence.new.self)
    (λ (n : ℕ). reply.Done) c.edit_range-in-Silence.result c.without_value-in-Silence.result c.in-Silence.is
    c.edit_range-in-Silence.ensures.took c.without_value-in-Silence.ensures c.edit_range-in-Silence.ensures.valid

pub returns-in-Copy : goal.returns-in-Copy
returns-in-Copy g c = asked_call g.S.Store (core_of c.args.studio.now) (core_of c.copy.new.self)
    (λ (done : Unit {0}). reply.Copied) c.copy.result c.without_value-in-Copy.result c.in-Copy.is
    c.copy.ensures.took c.without_value-in-Copy.ensures (λ held. c.copy.ensures.undamaged)

pub returns-in-Paste : goal.returns-in-Paste
returns-in-Paste g c = asked_call g.S.Store (core_of c.args.studio.now) (core_of c.paste_strips.new.self)
    (λ (n : ℕ). reply.Done) c.paste_strips.result c.without_value-in-Paste.result c.in-Paste.is
    c.paste_strips.ensures.took c.without_value-in-Paste.ensures c.paste_strips.ensures.valid

pub returns-in-Undo : goal.returns-in-Undo
returns-in-Undo g c = asked_call g.S.Store (core_of c.args.studio.now) (core_of c.undo.new.self)
    (λ (n : ℕ). reply.Done) c.undo.result c.without_value-in-Undo.result c.in-Undo.is c.undo.ensures.took
    c.without_value-in-Undo.ensures (λ held. c.undo.ensures.undamaged)

pub returns-in-Redo : goal.returns-in-Redo
returns-in-Redo g c = asked_call g.S.Store (core_of c.args.studio.now) (core_of c.redo.new.self)
    (λ (n : ℕ). reply.Done) c.redo.result c.without_value-in-Redo.result c.in-Redo.is c.redo.ensures.took
    c.without_value-in-Redo.ensures (λ held. c.redo.ensures.undamaged)

pub returns-in-Tracks : goal.returns-in-Tracks
returns-in-Tracks g c = asked_call g.S.Store (core_of c.args.studio.now) (core_of c.args.studio.now) reply.Tracks
    c.tracks.result c.without_value-in-Tracks.result c.in-Tracks.is c.tracks.ensures.took
    c.without_value-in-Tracks.ensures (λ held. never_damaged c.tracks.result c.tracks.ensures.why)

pub returns-in-Envelope : goal.returns-in-Envelope
returns-in-Envelope g c = asked_look g.S.Store (core_of c.args.studio.now) (core_of c.envelope.new.self) reply.Columns
    c.envelope.result c.without_value-in-Envelope.result c.in-Envelope.is c.envelope.ensures.looks
    c.without_value-in-Envelope.ensures
