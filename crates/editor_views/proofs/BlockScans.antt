-- A scan of one block that points name: how long it is, and what it says of its file.
use Rattle.editor_views.proofs.Common.{◌≡◌, refl, sym, subst, ℕ, ◌≤◌, List, ◌++◌, None, Ok, Err, IsTrue}
use Rattle.editor_views.proofs.Common.{All-from_recursion, Contains, AllByRecursion, BlockRef, IsWhole, Files, Kept}
use Rattle.editor_views.proofs.Common.{Ghosts, BlockFault, Counted, Track, point_blocks, history_blocks, IsValidPoint}
use Rattle.editor_views.proofs.Common.{Core, IsHeld, IsStudio, clip_blocks, pin_blocks, may_read, all_left, all_so}
use Rattle.editor_views.proofs.Common.{looked_held, looked_studio}
use Rattle.std.proofs.Common.{flat_map, Result}
use Rattle.std.proofs.lemmas.List.Elements.{All-contains}
use Rattle.std.proofs.lemmas.List.Folds.{flat_map-map}
use Rattle.std.specs.{Prelude.IsOkUnless, Prelude.OnOk}
use Rattle.pcm_base.specs.{History.History, History.point_of, History.points_of}
use Rattle.sample_block.specs.{Faults.damage_of, Sources.IsNamed}
use Rattle.disk_model.specs.{Disk.bytes_of}
use Rattle.block_store.specs.{Checks.Checks}
use Rattle.record_body.specs.SavedValid.{IsValidTagged}
use Rattle.editor_views.specs.Scans.{BlockScanned, ScansBlock}
use Rattle.editor_state.proofs.Lists.{all_joined}
use Rattle.editor_state.proofs.Calls.LookCalls.{keeps_still}
use Rattle.editor_state.proofs.{Blocks.CachePages.reads_none, Blocks.BlockLengths.tracks_short}
use Rattle.block_store.specs.declared.fault.BlockFault.TheVariants as fault

-- ---- the blocks that points name

pub points_blocks : (h : History (List Track)) → flat_map point_blocks (points_of h) ≡ history_blocks h
points_blocks h = flat_map-map point_blocks point_of h.points

module _ {D : Type 0} (disk : Ghosts D) (s : Core D) (is : IsStudio disk s) (b : BlockRef)
    (has : Contains (history_blocks s.history) b) where
  -- what holds of each block of each valid point
  each : (P : BlockRef → Type 0) →
      ((ts : List Track) → IsValidPoint s.block_size s.next_block s.next_track ts → AllByRecursion P
      (point_blocks ts)) → P b
  each P one =
      let valid = IsValidTagged s.block_size s.next_block s.next_track s.commit_number in
      let all = all_so valid (λ (p : List Track × ℕ). AllByRecursion P (point_blocks p.0))
      (λ p h. one p.0 h.0) s.history.points is.points in
      All-contains P (history_blocks s.history) b
      (All-from_recursion P (history_blocks s.history)
      (all_joined P (λ (p : List Track × ℕ). point_blocks p.0) s.history.points all)) has

  pub point_named : IsNamed b
  point_named = each IsNamed (may_read disk s is)

  pub point_short : b.len ≤ s.block_size
  point_short = each (λ (x : BlockRef). x.len ≤ s.block_size)
      (λ ts valid. tracks_short s.block_size s.next_block s.next_track ts valid.valid)

  pub point_whole : IsHeld disk s → IsWhole (disk.reads s.store) b
  point_whole held =
      let rest = pin_blocks s.pins ++ clip_blocks s.clipboard in
      All-contains (IsWhole (disk.reads s.store)) (history_blocks s.history) b
      (All-from_recursion (IsWhole (disk.reads s.store)) (history_blocks s.history)
      (all_left (IsWhole (disk.reads s.store)) (history_blocks s.history) rest held.whole)) has

-- ---- one block of those that points name

pub told_block : {T : Type 0} (files : Files) (b : BlockRef) (r : Result T BlockFault) → OnOk r (IsWhole files b)
    → Checks b.id (damage_of b.id b.len (bytes_of (files b.id))) r → BlockScanned files b r
told_block files b (Ok done) whole checks = whole
told_block files b (Err fault.DiskFault) whole checks = tt
told_block files b (Err (fault.Damaged file found)) whole checks = checks

module _ {D T : Type 0} (disk : Ghosts D) (s : Core D) (is : IsStudio disk s) (going : s.stopped ≡ None)
    (b : BlockRef) (has : Contains (history_blocks s.history) b)
    (r : Result T BlockFault) (store : D) (kept : Kept disk s.store store) where
  pub scans_block : (m : ℕ) → m ≡ s.block_size → (IsTrue (disk.tells s.store) → OnOk r (IsWhole (disk.reads s.store) b))
      → (IsTrue (disk.tells s.store) → Checks b.id (damage_of b.id b.len (bytes_of (disk.reads s.store b.id))) r)
      → (IsTrue (disk.tells s.store) → IsWhole (disk.reads s.store) b → IsOkUnless r fault.DiskFault)
      → Counted r (disk.read_fault_count s.store) (disk.read_fault_count store)
      → ScansBlock disk s b r (record s { store = store; block_size = m })
  scans_block m same whole checks valid counted =
      subst (λ (k : ℕ). ScansBlock disk s b r (record s { store = store; block_size = k })) (sym same) (record {
        scanned = λ tells. told_block (disk.reads s.store) b r (whole tells) (checks tells);
        counted = counted;
        valid = λ held. valid held.tells (point_whole disk s is b has held);
        same = refl;
        kept = kept;
        studio = looked_studio disk s is store kept s.cache (reads_none disk s);
        held = looked_held disk s is store kept s.cache (reads_none disk s);
        any_moment = λ held. keeps_still disk s is store kept s.cache (reads_none disk s) going held;
      })
