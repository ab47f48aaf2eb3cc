-- The counts of files, and of the layouts of a history.
use Rattle.editor_recovery.proofs.Common.{◌≡◌, ℕ, ◌+◌, ◌≤◌, ◌<◌, ◌^◌, ⊎_elim, List, [], ◌∷◌, length}
use Rattle.editor_recovery.proofs.Common.{None, refl, ap, subst, arith, Contains, IsSome, find, if◌then◌else◌}
use Rattle.editor_recovery.proofs.Common.{AllByRecursion, BlockRef, History, Files, counts_of, Track, history_blocks}
use Rattle.editor_recovery.proofs.Common.{point_blocks, IsValidTagged, history_tracks, times_named, is_foreign, IsAbove}
use Rattle.editor_recovery.proofs.Common.{AreFiles, inl, inr}
use Rattle.std.proofs.{lemmas.Bool.Decides.eqb_tells, lemmas.List.append-nil}
use Rattle.block_ledger.specs.{Counts.Counts, Counts.occurrences}
use Rattle.layout_uses.specs.Tallies.{AreCounts, Comes, IsTally, Uses}
use Rattle.layout_uses.specs.{declared.tally.Tally.Tally, Layouts.track_blocks, Occurrences.HasIds}
use Rattle.editor_state.specs.Studios.{IsGiven}
use Rattle.editor_state.proofs.Blocks.BlockNumbers.{named_most, point_few}
use Rattle.editor_state.proofs.Blocks.NamedBlocks.{points_few as points_short, history_named}
use Rattle.editor_recovery.specs.Ledgers.{AreCounted, AreNoted, IsLedgerOf}
use Rattle.editor_recovery.proofs.Highest.{listed_high}
use Rattle.editor_edits.proofs.EditClipboard.{points_few as parts_few}

-- ---- files that are noted

noted_zero : (files : List ℕ) (counts : Counts) → AreNoted files counts → (id : ℕ) → occurrences (counts id) ≡ 0
noted_zero files counts noted id =
    ⊎_elim (λ none. ap occurrences none) (λ some. ap occurrences some.0) (noted.only id)

noted_some : (files : List ℕ) (counts : Counts) → AreNoted files counts → (id : ℕ) → Contains files id → 2 ≤ id
    → IsSome (counts id)
noted_some files counts noted id there low = rw (noted.there id there low) refl

-- nothing is used, and nothing named
pub noted_tally : (files : List ℕ) (uses : Uses) (counts : Counts) → ((n : ℕ) → uses.counts n ≡ None)
    → ((n : ℕ) → uses.lists n ≡ None) → ((id : ℕ) → uses.singles id ≡ 0) → AreNoted files counts
    → AreCounts [] [] uses counts
noted_tally files uses counts none lists singles noted = record {
  fresh_uses = λ n. ap occurrences (none n);
  none_free = λ n free. absurd (cc (none n));
  fresh_counts = λ id. noted_zero files counts noted id;
  listed = tt;
  no_other = λ n absent. lists n;
  singles = singles;
}

-- ---- the blocks of a history

-- each block that is named is there
named_there : (P : ℕ → Type 0) (bs : List BlockRef) (id : ℕ) → AllByRecursion (λ (b : BlockRef). P b.id) bs
    → 0 < times_named id bs → P id
named_there P [] id all some = absurd (omega (arith, some))
named_there P (b ∷ bs) id all some = elim (eqb_tells b.id id) [
  | inl same ↦ subst P same.1 all.0
  | inr other ↦ named_there P bs id all.1 (omega (arith, some, ap {B = ℕ} (λ t. if t then 1 else 0) other.0))
]

module _ (files : List ℕ) (h : History (List Track))
    (named : AllByRecursion (λ (b : BlockRef). (2 ≤ b.id) × Contains files b.id) (history_blocks h))
    (counts : Counts) (noted : AreNoted files counts) where
  pub points_there : HasIds counts (track_blocks (history_tracks h))
  points_there id some =
      let here = named_there (λ (n : ℕ). (2 ≤ n) × Contains files n) (history_blocks h) id named
      (rw (history_named h) at some) in
      noted_some files counts noted id here.1 here.0

  pub points_few : ((id : ℕ) → times_named id (history_blocks h) < 2 ^ 128) → (id : ℕ)
      → occurrences (counts id) + times_named id (track_blocks (history_tracks h)) < 2 ^ 128
  points_few few id = omega (
    arith,
    few id,
    noted_zero files counts noted id,
    ap (times_named id) (history_named h),
  )

-- ---- the counts then

pub tally_then : (h : History (List Track)) (old new : Tally) → length (history_tracks h) < 2 ^ 128 → IsTally [] [] old
    → Comes (history_tracks h) old new → IsTally (history_tracks h) [] new
tally_then h old new few was comes = rw append-nil at (comes.counted [] [] (omega (arith, few)) was)

pub counted_then : (files : List ℕ) (tracks : List Track) (old new : Tally) → AreNoted files (counts_of old.ledger)
    → Comes tracks old new → AreCounted files (counts_of new.ledger)
counted_then files tracks old new noted comes = record {
  there = λ id there low. (comes.ids id).1 (noted_some files (counts_of old.ledger) noted id there low);
  only = λ id some. elim (noted.only id)
      [ inl none ↦ absurd (cc (rw none at ((comes.ids id).0 some))) | inr is ↦ (is.1, is.2) ];
}

-- by the files of a disk
pub ledger_of : (files : Files) (listed : List ℕ) (counts : Counts) → AreFiles files listed
    → AreCounted listed counts → IsLedgerOf files counts
ledger_of files listed counts are is = record {
  there = λ id has low. is.there id ((are id).1 has) low;
  only = λ id has. let here = is.only id has in ((are id).0 here.1, here.0);
}

-- each id that is counted is one of a block, below the next
pub given : (files : List ℕ) (counts : Counts) (last next : ℕ) → AreCounted files counts
    → find is_foreign files ≡ None → IsAbove files last next → (id : ℕ) → IsSome (counts id) → IsGiven next id
given files counts last next is known above id has =
    let here = is.only id has in
    (listed_high files id known here.1 here.0, above.above id here.1)

-- ---- how many there are

each_few : (m block track commit : ℕ) (ps : List (List Track × ℕ))
    → AllByRecursion (IsValidTagged m block track commit) ps
    → AllByRecursion (λ (p : List Track × ℕ). length (point_blocks p.0) ≤ 2 ^ 38) ps
each_few m block track commit [] all = tt
each_few m block track commit (p ∷ ps) all =
    (point_few m block track p.0 all.0.0, each_few m block track commit ps all.1)

each_short : (m block track commit : ℕ) (ps : List (List Track × ℕ))
    → AllByRecursion (IsValidTagged m block track commit) ps
    → AllByRecursion (λ (p : List Track × ℕ). length p.0 ≤ 64) ps
each_short m block track commit [] all = tt
each_short m block track commit (p ∷ ps) all = (all.0.0.few, each_short m block track commit ps all.1)

-- no id is named more often than a count can say, and no more tracks are there
pub counts_fit : (m block track commit : ℕ) (h : History (List Track))
    → AllByRecursion (IsValidTagged m block track commit) h.points → length h.points ≤ 65536
    → ((id : ℕ) → times_named id (history_blocks h) < 2 ^ 128) × (length (history_tracks h) < 2 ^ 128)
counts_fit m block track commit h all few = (
  λ id. omega (
    arith,
    few,
    named_most id (history_blocks h),
    parts_few h.points (each_few m block track commit h.points all),
  ),
  omega (arith, few, points_short h.points (each_short m block track commit h.points all)),
)
