-- What bytes say in a journal of a version.
use Rattle.journal_replay.proofs.Common.{◌≡◌, ℕ, zero, suc, ◌≤◌, ◌<◌, ◌^◌, List, [], ◌∷◌, map, Some, None, refl, sym}
use Rattle.journal_replay.proofs.Common.{ap, ◌∙◌, subst, eq-eqb, first_failed, Edit, Undo, Redo, Purge, Saved}
use Rattle.journal_replay.proofs.Common.{MayFollow, IsNextIn, before_of, current_tracks, Body, Before, SaysBody}
use Rattle.journal_replay.proofs.Common.{body_tests, IsValidBody, spelling, Track, field_tests, IsSaid, before_at}
use Rattle.std.proofs.Common.{slice_index}
use Rattle.record_body.specs.Places.{body_at, track_count}
use Rattle.record_body.specs.{ChangePlaces.all_diff_at}
use Rattle.record_body.proofs.{ReadBack.read_back, Moved.delta_moved, SaysOnce.same_edit}
use Rattle.journal_replay.specs.Faults.{known, diff_body, said, says}

known_all : (ts : List Track) → known (map Some ts) ≡ ts
known_all [] = refl
known_all (t ∷ ts) = ap (λ (xs : List Track). t ∷ xs) (known_all ts)

diff_is : (current : List Track) (bytes : List ℕ) (body : Body) → SaysBody current bytes body
    → diff_body current bytes ≡ body
diff_is current bytes (Edit tag next_block next_track ts) s =
    let tracks : known (all_diff_at current (track_count bytes) 29 bytes) ≡ ts = ap known (sym s.1.3) ∙ known_all ts in
    rw (eq-eqb (slice_index bytes 0) 5 s.0) (same_edit (sym s.1.0) (sym s.1.1) (sym s.1.2) tracks)
diff_is current bytes Undo s = rw s refl
diff_is current bytes Redo s = rw s refl
diff_is current bytes (Purge n) s = rw (s.0) (ap Purge (sym s.1))

spelled_is : (m : ℕ) (b : Before) (bytes : List ℕ) (body : Body) → 4 ≤ m → m < 2 ^ 32 → spelling body ≡ bytes
    → IsValidBody m b body → body_at bytes ≡ body
spelled_is m b bytes body least most spelled valid =
    ap body_at (sym spelled) ∙ (read_back m b body least most valid).1

said_is : (version m : ℕ) (b : Before) (current : List Track) (bytes : List ℕ) (body : Body) → 4 ≤ m → m < 2 ^ 32
    → IsSaid version m b current bytes body → said version current bytes ≡ body
said_is zero m b current bytes body least most is = spelled_is m b bytes body least most is.0 is.1
said_is (suc zero) m b current bytes body least most is = spelled_is m b bytes body least most is.0 is.1
said_is (suc (suc version)) m b current bytes body least most is = diff_is current bytes body is.0

pub says_is : (version m at : ℕ) (k : Saved) (bytes : List ℕ) (body : Body) → 4 ≤ m → m < 2 ^ 32
    → IsSaid version m (before_at k at) (current_tracks k.history) bytes body → says version k bytes ≡ body
unfolding says
says_is version m at k bytes body least most is =
    said_is version m (before_at k at) (current_tracks k.history) bytes body least most is

-- The place of a record bears only on where its faults are reported.
valid_at : (m : ℕ) (k : Saved) (at there : ℕ) (body : Body) → IsValidBody m (before_at k at) body
    → IsValidBody m (before_at k there) body
valid_at m k at there (Edit tag next_block next_track ts) s = record {
  tag_number = s.tag_number;
  tag_given = s.tag_given;
  block_least = s.block_least;
  block_most = s.block_most;
  block_later = s.block_later;
  track_least = s.track_least;
  track_most = s.track_most;
  track_later = s.track_later;
  few = s.few;
  rising = s.rising;
  valid = s.valid;
  unnumbered = s.unnumbered;
}
valid_at m k at there Undo s = tt
valid_at m k at there Redo s = tt
valid_at m k at there (Purge n) s = s

-- a body that was read may come next
pub said_next : (version m at : ℕ) (k : Saved) (bytes : List ℕ) (body : Body)
    → first_failed (field_tests version m (before_at k at) (current_tracks k.history) bytes) ≡ None
    → IsSaid version m (before_at k at) (current_tracks k.history) bytes body → MayFollow k.history body
    → IsNextIn version m k bytes body
said_next zero m at k bytes body none is follows =
    record { spelled = sym is.0; valid = valid_at m k at 0 body is.1; follows = follows }
said_next (suc zero) m at k bytes body none is follows =
    record { spelled = sym is.0; valid = valid_at m k at 0 body is.1; follows = follows }
said_next (suc (suc version)) m at k bytes body none is follows = record {
  tests = delta_moved m 0 (before_at k at) (current_tracks k.history) bytes none;
  says = is.0;
  valid = valid_at m k at 0 body is.1;
  follows = follows;
}

-- and one that may come next is read, wherever it stands
pub record IsRead (version m at : ℕ) (k : Saved) (bytes : List ℕ) (body : Body) : Type 0 where
  pub none : first_failed (field_tests version m (before_at k at) (current_tracks k.history) bytes) ≡ None
  pub said : IsSaid version m (before_at k at) (current_tracks k.history) bytes body
  pub follows : MayFollow k.history body

spelled_read : (m at : ℕ) (k : Saved) (bytes : List ℕ) (body : Body) → 4 ≤ m → m < 2 ^ 32 → bytes ≡ spelling body
    → IsValidBody m (before_of k) body → first_failed (body_tests m (before_at k at) bytes) ≡ None
spelled_read m at k bytes body least most spelled valid =
    subst (λ (bs : List ℕ). first_failed (body_tests m (before_at k at) bs) ≡ None) (sym spelled)
    (read_back m (before_at k at) body least most (valid_at m k 0 at body valid)).0

pub next_read : (version m at : ℕ) (k : Saved) (bytes : List ℕ) (body : Body) → 4 ≤ m → m < 2 ^ 32
    → IsNextIn version m k bytes body → IsRead version m at k bytes body
next_read zero m at k bytes body least most next = record {
  none = spelled_read m at k bytes body least most next.spelled next.valid;
  said = (sym next.spelled, valid_at m k 0 at body next.valid);
  follows = next.follows;
}
next_read (suc zero) m at k bytes body least most next = record {
  none = spelled_read m at k bytes body least most next.spelled next.valid;
  said = (sym next.spelled, valid_at m k 0 at body next.valid);
  follows = next.follows;
}
next_read (suc (suc version)) m at k bytes body least most next = record {
  none = delta_moved m at (before_of k) (current_tracks k.history) bytes next.tests;
  said = (next.says, valid_at m k 0 at body next.valid);
  follows = next.follows;
}
