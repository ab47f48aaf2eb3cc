-- A project without one of its tracks, and with one more.
use Rattle.editor_commits.proofs.Common.{◌≡◌, refl, ℕ, ◌+◌, ◌≤◌, ◌<◌}
use Rattle.editor_commits.proofs.Common.{List, [], ◌∷◌, ◌++◌, arith, ne_eqb, eqb_tells, AllByRecursion}
use Rattle.editor_commits.proofs.Common.{BlockRef, Sources, dropped, layout_blocks, meant}
use Rattle.editor_commits.proofs.Common.{point_blocks, Track, AreAbove, AllBelow, IsValidTrack, AllValidTracks, without}
use Rattle.editor_commits.proofs.Common.{empty_track, all_append, all_left, all_right, rules}
use Rattle.std.proofs.Common.{◌≢◌}
use Rattle.editor_commits.specs.Plain.{other_one}

-- ---- one track, or none

one_if : (P : List Track → Type 0) (id : ℕ) (t : Track) → (t.id ≡ id → P []) → (t.id ≢ id → P (t ∷ []))
    → P (other_one id t)
one_if P id t none one = search (rules, eqb_tells)

pub above_less : (n m : ℕ) (ts : List Track) → n ≤ m → AreAbove m ts → AreAbove n ts
above_less n m [] h above = tt
above_less n m (t ∷ ts) h above = (omega (arith, h, above.0), above.1)

pub without_rising : (id n : ℕ) (ts : List Track) → AreAbove n ts → AreAbove n (without id ts)
without_rising id n [] above = tt
without_rising id n (t ∷ ts) above = search (rules, one_if, above_less, without_rising id (t.id + 1) ts above.1)

pub without_valid : (m next_block next_track id : ℕ) (ts : List Track) → AllValidTracks m next_block next_track ts
    → AllValidTracks m next_block next_track (without id ts)
without_valid m next_block next_track id [] all = tt
without_valid m next_block next_track id (t ∷ ts) all =
    search (rules, one_if, without_valid m next_block next_track id ts all.1)

pub without_blocks : (P : BlockRef → Type 0) (id : ℕ) (ts : List Track) → AllByRecursion P (point_blocks ts)
    → AllByRecursion P (point_blocks (without id ts))
without_blocks P id [] all = tt
without_blocks P id (t ∷ ts) all =
    search (
      rules,
      all_right,
      one_if,
      all_append,
      all_left,
      without_blocks P id ts (all_right P (layout_blocks
          t.layout) (point_blocks ts) all),
    )

-- the ids are above it
without_above : (id n : ℕ) (ts : List Track) → id < n → AreAbove n ts → without id ts ≡ ts
without_above id n [] less above = refl
without_above id n (t ∷ ts) less above =
    search (rules, ne_eqb, without_above id (t.id + 1) ts (omega (arith, less, above.0)) above.1)

pub without_means : (src : Sources) (id n : ℕ) (ts : List Track) → AreAbove n ts
    → meant src (without id ts) ≡ dropped id (meant src ts)
without_means src id n [] above = refl
without_means src id n (t ∷ ts) above =
    search (rules, without_above, eqb_tells, without_means src id (t.id + 1) ts above.1)

-- ---- one more

pub given_below : (m next_block next_track : ℕ) (ts : List Track) → AllValidTracks m next_block next_track ts
    → AllBelow next_track ts
given_below m next_block next_track [] all = tt
given_below m next_block next_track (t ∷ ts) all = (all.0.given, given_below m next_block next_track ts all.1)

pub more_valid : (m next_block next_track : ℕ) (ts : List Track) (t : Track) → AllValidTracks m next_block next_track ts
    → IsValidTrack m next_block next_track t → AllValidTracks m next_block next_track (ts ++ t ∷ [])
more_valid m next_block next_track [] t all one = (one, tt)
more_valid m next_block next_track (x ∷ xs) t all one = (all.0, more_valid m next_block next_track xs t all.1 one)

pub more_blocks : (P : BlockRef → Type 0) (ts : List Track) (id number : ℕ) → AllByRecursion P (point_blocks ts)
    → AllByRecursion P (point_blocks (ts ++ empty_track id number ∷ []))
more_blocks P [] id number all = tt
more_blocks P (t ∷ ts) id number all =
    search (
      rules,
      all_append,
      all_left,
      all_right,
      more_blocks P ts id number (all_right P (layout_blocks t.layout)
          (point_blocks ts) all),
    )
