-- What is counted once a point was recorded under a tag: after the current one, or in its place.
use Rattle.editor_core.proofs.Common.{◌≡◌, sym, subst, ℕ, Bool, false, List, History, edited, Track, Tally}
use Rattle.editor_core.proofs.Common.{history_tracks, Becomes}
use Rattle.std.proofs.Common.{true, if◌then◌else◌}
use Rattle.pcm_base.specs.History.{amended, is_of_recording, recorded}

module _ (h : History (List Track)) (p : List Track) (tag : ℕ) (old new : Tally) where
  abbrev BecomesBy : History (List Track) → Type 0
  BecomesBy z = Becomes p (history_tracks h) (history_tracks z) old new

  abbrev by_test : Bool → History (List Track)
  by_test b = if b then amended h p else edited h p tag

  pub becomes_in_place : is_of_recording h tag ≡ true → BecomesBy (amended h p) → BecomesBy (recorded h p tag)
  becomes_in_place is becomes = subst (λ (b : Bool). BecomesBy (by_test b)) (sym is) becomes

  pub becomes_behind : is_of_recording h tag ≡ false → BecomesBy (edited h p tag) → BecomesBy (recorded h p tag)
  becomes_behind is becomes = subst (λ (b : Bool). BecomesBy (by_test b)) (sym is) becomes
