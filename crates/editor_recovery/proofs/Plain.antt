-- A project whose layouts have numbers is as valid as the same one without them.
use Rattle.editor_recovery.proofs.Common.{ℕ, List, [], ◌∷◌, map, refl, All-from_recursion, recursion_from_All}
use Rattle.editor_recovery.proofs.Common.{AllByRecursion, Track, Saved, IsValidTagged, Project, IsValid, saved_of}
use Rattle.project_state.specs.{Numbers.unnumbered}
use Rattle.record_body.proofs.Unnumbered.{sound_back}

-- a point with its tag
abbrev pub Tagged : Type 0
Tagged = List Track × ℕ

abbrev plain_point : Tagged → Tagged
plain_point p = (map unnumbered p.0, p.1)

points_back : (m block track commit : ℕ) (ps : List Tagged)
    → AllByRecursion (IsValidTagged m block track commit) (map plain_point ps)
    → AllByRecursion (IsValidTagged m block track commit) ps
points_back m block track commit [] all = tt
points_back m block track commit (p ∷ ps) all =
    ((sound_back m block track p.0 all.0.0, all.0.1), points_back m block track commit ps all.1)

-- with the numbers
abbrev pub numbered_kept : Project → Saved
numbered_kept p = record {
  history = p.numbered.history.history;
  next_block = p.next_block;
  next_track = p.next_track;
  commit = p.commit;
}

pub valid_back : (m : ℕ) (p : Project) → IsValid m (saved_of p) → IsValid m (numbered_kept p)
valid_back m p valid =
    let ps : List Tagged = p.numbered.history.history.points in
    let Q : Tagged → Type 0 = IsValidTagged m p.next_block p.next_track p.commit in
    record {
      points = All-from_recursion Q ps (points_back m p.next_block p.next_track p.commit ps
          (recursion_from_All Q (map plain_point ps) valid.points));
      depth_is = refl;
      commit_is = refl;
      block_least = valid.block_least;
      block_most = valid.block_most;
      track_least = valid.track_least;
      track_most = valid.track_most;
    }
