-- Calls that are refused, and what is told of tracks.
use Rattle.session_run.proofs.Common.{◌≡◌, List, [], Err, subst, sym, ap, Reply, TrackLine, Ghosts, OpenFault, IsDone}
use Rattle.session_run.proofs.Common.{IsRefused, call_fault_of, status_of_fault, OpensNot, Done, Prints, Streams}
use Rattle.script_text.specs.{declared.call_fault.CallFault.CallFault, CallFault.refused_text}
use Rattle.session_run.specs.{Opening.Looks}
use Rattle.pcm_base.specs.declared.answer.Reply.TheVariants as reply

pub refused_as : {D : Type 0} (fault told : CallFault) (s : Streams) (done : Done D) → told ≡ fault
    → Prints s (refused_text told) → IsDone (status_of_fault told) done → IsRefused fault s done
refused_as {D} fault told s done same printed done_is =
    subst (λ (f : CallFault). IsRefused f s done) same (record { printed = printed; done_is = done_is })

-- a project that was not opened
pub opens_not : {D : Type 0} {disk : Ghosts D} {store left : D} {fault : OpenFault} {told : CallFault} (s : Streams)
    (done : Done D) → Looks disk store left (Err fault) → done.store ≡ left → told ≡ call_fault_of fault
    → Prints s (refused_text told) → IsDone (status_of_fault told) done → OpensNot disk store s done
opens_not {D} {disk} {store} {left} {fault} {told} s done looks at same printed done_is = (
  fault,
  subst (λ (z : D). Looks disk store z (Err fault)) (sym at) looks,
  refused_as (call_fault_of fault) told s done same printed done_is,
)

-- the tracks of a reply that tells them
abbrev tracks_in : Reply → List TrackLine
tracks_in (reply.Tracks tracks) = tracks
tracks_in _ = []

pub same_tracks : (a b : List TrackLine) → reply.Tracks a ≡ reply.Tracks b → a ≡ b
same_tracks a b same = ap tracks_in same
