-- Each line is a step by the call that is its own.
use Rattle.editor_core.proofs.Common.{◌≡◌, refl, ℕ, List, [], Result, Reply, Command, Line, Refusal, Ghosts, core_of}
use Rattle.editor_core.proofs.Common.{Core, Took, freeing}
use Rattle.editor_core.proofs.Replies.{replied}
use Rattle.editor_core.proofs.studio.Studio.silent_reply.Goals as goal

answered : {D : Type 0} (disk : Ghosts D) (s new : Core D) (removed : List ℕ) {line own : Command}
    {r made : Result Reply Refusal} → line ≡ own → r ≡ made → Took disk s (freeing (Line own) made removed) new
    → (removed : List ℕ) × Took disk s (freeing (Line line) r removed) new
answered disk s new removed is by took = (removed, replied disk s new removed is by took)

pub returns-in-Track : goal.returns-in-Track
returns-in-Track g c =
    answered g.S.Store (core_of c.args.self.now) (core_of c.track.new.self) [] c.in-Track.is
    c.done.ensures c.track.ensures.took

pub returns-in-Drop : goal.returns-in-Drop
returns-in-Drop g c =
    answered g.S.Store (core_of c.args.self.now) (core_of c.drop.new.self) [] c.in-Drop.is
    c.done-in-Drop.ensures c.drop.ensures.took

pub returns-in-Level : goal.returns-in-Level
returns-in-Level g c =
    answered g.S.Store (core_of c.args.self.now) (core_of c.level.new.self) [] c.in-Level.is
    c.done-in-Level.ensures c.level.ensures.took

pub returns-in-Side : goal.returns-in-Side
returns-in-Side g c =
    answered g.S.Store (core_of c.args.self.now) (core_of c.side.new.self) [] c.in-Side.is
    c.done-in-Side.ensures c.side.ensures.took

pub returns-in-Mute : goal.returns-in-Mute
returns-in-Mute g c =
    answered g.S.Store (core_of c.args.self.now) (core_of c.mute.new.self) [] c.in-Mute.is
    c.done-in-Mute.ensures c.mute.ensures.took

pub returns-in-Undo : goal.returns-in-Undo
returns-in-Undo g c =
    answered g.S.Store (core_of c.args.self.now) (core_of c.undo.new.self) [] c.in-Undo.is
    c.done-in-Undo.ensures c.undo.ensures.took

pub returns-in-Redo : goal.returns-in-Redo
returns-in-Redo g c =
    answered g.S.Store (core_of c.args.self.now) (core_of c.redo.new.self) [] c.in-Redo.is
    c.done-in-Redo.ensures c.redo.ensures.took

pub returns-in-Purge : goal.returns-in-Purge
returns-in-Purge g c =
    answered g.S.Store (core_of c.args.self.now) (core_of c.purge.new.self) [] c.in-Purge.is
    c.done-in-Purge.ensures c.purge.ensures.took

pub returns-in-PurgeTo : goal.returns-in-PurgeTo
returns-in-PurgeTo g c =
    answered g.S.Store (core_of c.args.self.now) (core_of c.purge_to.new.self) [] c.in-PurgeTo.is
    c.purged.ensures c.purge_to.ensures.took

pub returns-in-Show : goal.returns-in-Show
returns-in-Show g c =
    answered g.S.Store (core_of c.args.self.now) (core_of c.show_reply.new.self) [] c.in-Show.is
    refl c.show_reply.ensures

pub returns-in-Mix : goal.returns-in-Mix
returns-in-Mix g c =
    answered g.S.Store (core_of c.args.self.now) (core_of c.mix_reply.new.self) [] c.in-Mix.is refl c.mix_reply.ensures

pub returns-in-Envelope : goal.returns-in-Envelope
returns-in-Envelope g c =
    answered g.S.Store (core_of c.args.self.now) (core_of c.envelope_reply.new.self) [] c.in-Envelope.is
    refl c.envelope_reply.ensures

pub returns-in-Tracks : goal.returns-in-Tracks
returns-in-Tracks g c =
    answered g.S.Store (core_of c.args.self.now) (core_of c.args.self.now) [] c.in-Tracks.is refl c.tracks_reply.ensures

pub returns-in-Reclaim : goal.returns-in-Reclaim
returns-in-Reclaim g c =
    answered g.S.Store (core_of c.args.self.now) (core_of c.reclaim.new.self) c.reclaim.ensures.ids c.in-Reclaim.is
    c.freed.ensures c.reclaim.ensures.took

pub returns-in-Compact : goal.returns-in-Compact
returns-in-Compact g c =
    answered g.S.Store (core_of c.args.self.now) (core_of c.compact.new.self) [] c.in-Compact.is
    c.packed.ensures c.compact.ensures.took
