-- Telling of the tracks.
use Rattle.std.proofs.Common.{rules}
use Rattle.editor_views.proofs.Common.{◌≡◌, refl, sym, ap, ◌∙◌, ℕ, List, [], ◌∷◌, ◌++◌, map, Some, None, Ok, Err, arith}
use Rattle.editor_views.proofs.Common.{Call, Line, Project, Sources, stop_of, Ghosts, Fewer, sources_of, Track, meant}
use Rattle.editor_views.proofs.Common.{current_tracks, Core, IsStudio, studio_of, Took, quietly, current_meant, IsQuiet}
use Rattle.editor_views.proofs.Common.{quiet_passes, carried, room_of, refused_stopped, refused_wanting, stays_answered}
use Rattle.editor_views.proofs.Common.{fits}
use Rattle.pcm_base.specs.{declared.sound.TrackLine.TrackLine, Step.line_of_track}
use Rattle.project_state.specs.{Meaning.meant_track}
use Rattle.pcm_base.specs.declared.answer.Reply.TheVariants as reply
use Rattle.pcm_base.specs.declared.command.Command.TheVariants as command
use Rattle.pcm_base.specs.declared.refusal.Refusal.TheVariants as refusal
use Rattle.pcm_base.specs.Studio as model

-- one track more
pub lines_more : (src : Sources) (us : List Track) (t : Track) → map line_of_track (meant src (us ++ t ∷ []))
    ≡ map line_of_track (meant src us) ++ line_of_track (meant_track src t) ∷ []
lines_more src [] t = refl
lines_more src (u ∷ us) t = ap (λ (z : List TrackLine). line_of_track (meant_track src u) ∷ z) (lines_more src us t)

module _ {D : Type 0} (disk : Ghosts D) (s : Core D) (is : IsStudio disk s) (fewer : Fewer disk s.store) where
  abbrev t : model.Studio
  t = studio_of disk s

  abbrev tell : Call
  tell = Line command.Tracks

  tell_quiet : IsQuiet tell
  tell_quiet = search rules

  pub tell_stopped : (faults : ℕ) → s.stopped ≡ Some faults → Took disk s (quietly tell (Err (refusal.Stopped faults)))
      s
  tell_stopped faults stopped = refused_stopped disk s tell tell_quiet tt is fewer faults refl stopped

  pub tell_wanting : Took disk s (quietly tell (Err refusal.NoMemory)) s
  tell_wanting = refused_wanting disk s tell tell_quiet tt is fewer

  pub told_of : (lines : List TrackLine)
      → s.stopped ≡ None → ((src : Sources) → lines ≡ map line_of_track (meant src (current_tracks s.history)))
      → Took disk s (quietly tell (Ok (reply.Tracks lines))) s
  told_of lines going all =
      let src = sources_of (disk.reads s.store) in
      let room = room_of disk s tell is in
      let passed = quiet_passes t tell tell_quiet room refl (ap stop_of going) refl
      (fits s.next_pin 0 (omega (arith, is.counters.pin_most))) in
      stays_answered disk s tell tell_quiet tt is fewer tt (reply.Tracks lines)
      (λ _. carried t tell tell_quiet room refl (reply.Tracks lines) t passed
      (ap reply.Tracks (all src ∙ ap (λ (p : Project). map line_of_track p) (sym (current_meant disk s is)))) refl)
