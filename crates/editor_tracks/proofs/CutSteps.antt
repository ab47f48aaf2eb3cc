-- A planned cut of a run is an edit, and a step.
use Rattle.editor_tracks.proofs.Common.{◌≡◌, refl, sym, ap, ◌∙◌, subst, ℕ, ◌+◌, ◌^◌, ◌≤◌, ℤ, Option, Some, None, List}
use Rattle.editor_tracks.proofs.Common.{length, map, take, replicate, Contains, Ok, arith, rules, length-map, BlockRef}
use Rattle.editor_tracks.proofs.Common.{Call, Line, Cell, run_edited, removed, edited, recorded, Sources, ◌otherwise◌}
use Rattle.editor_tracks.proofs.Common.{outside, blocks_of_tracks, current, after, copied, Removing, Ghosts, Fewer}
use Rattle.editor_tracks.proofs.Common.{Clip, Item, AreWritten, AreCuts, copy_tests, Nothing, brought, brought_by}
use Rattle.editor_tracks.proofs.Common.{meant, meant_history, point_blocks, Track, track_of, current_tracks}
use Rattle.editor_tracks.proofs.Common.{IsValidPoint, meant_recorded, HasNumbers, AreAmong, IsEdit, IsEditCall}
use Rattle.editor_tracks.proofs.Common.{IsPlanned, alone, blocks_with, clip_behind, clip_then, tagged_by, IsClipboard}
use Rattle.editor_tracks.proofs.Common.{IsStudio, clip_cells, named_blocks, studio_by, Planned, Core, lacks, HasLayout}
use Rattle.editor_tracks.proofs.Common.{silent, RunRange, Copies, run_of, strips_blocks, cut_line, plan_start}
use Rattle.editor_tracks.proofs.Common.{among_itself, all_left, current_valid, old_names, current_may_read, current_is}
use Rattle.editor_tracks.proofs.Common.{refs}
use Rattle.std.proofs.lemmas.List.{length-replicate}
use Rattle.editor_tracks.specs.{Cuts.IsCutPlan}
use Rattle.editor_tracks.proofs.CopyStrips.{copies_mean, from_blocks, from_track, layout_of, run_is, run_meant}
use Rattle.editor_tracks.proofs.CutLaws.{cuts_laid, each_so, same_edits, strips_short, there_of}
use Rattle.edit_ops.proofs.RunLists.{wide_enough}
use Rattle.editor_tracks.proofs.CutRefusals.{after_by, cut_call, draws_by, own_is}
use Rattle.editor_tracks.proofs.{CopySteps.may_paste, CopySteps.strips_named, RunLaws.run_few, RunLaws.run_planned}
use Rattle.editor_tracks.proofs.{RunLaws.run_point, RunPlans.AreLaid, RunPlans.CellEdit, RunPlans.laid_many}
use Rattle.pcm_base.specs.Studio as model

module _ {D : Type 0} (disk : Ghosts D) (s : Core D) (is : IsStudio disk s) (e : Removing) (range : RunRange)
    (fewer : Fewer disk s.store) where
  open range use {track as id, count as n, from, to}

  abbrev old : List Track
  old = current_tracks s.history

  abbrev line : Call
  line = Line (cut_line e range)

  old_valid : IsValidPoint s.block_size s.next_block s.next_track old
  old_valid = current_valid disk s is

  module _ (going : s.stopped ≡ None) (planned : Planned) (p : IsCutPlan e range s planned) (none : planned.tracks ≡ 0)
      (numbers : HasNumbers (current_tracks s.history) s.next_layout planned.point
      (s.next_layout + planned.layouts)) where
    open planned use {point as new, makes}

    abbrev xs : List BlockRef
    xs = point_blocks old

    abbrev ran : List Track
    ran = from_track id old

    abbrev f : List Cell → List Cell
    f = removed e from to

    abbrev every : List BlockRef
    every = blocks_with s makes

    abbrev v : List (List Item)
    v = p.strips

    found : (x : Track) × (track_of id old ≡ Some x)
    found = there_of id old (copy_tests (run_of id old) n from to) (track_of id old) refl p.tests

    tests : copy_tests (run_of id old) n from to ≡ None
    tests = (λ i. (lacks id (sym found.1 i)) otherwise (copy_tests (run_of id old) n from to)) ∙ p.tests

    layouts : run_of id old ≡ map layout_of ran
    layouts = run_is id 1 old found.0 old_valid.rising found.1

    copies : Copies (run_of id old) range (Ok v)
    copies = (tests, p.copies)

    has : HasLayout id old (found.0).layout
    has = record { track = found.0; found = found.1; is = refl }

    laid : AreLaid (each_so n f) s.block_size s.next_block xs ran p.plans
    laid =
        cuts_laid f (plan_start s) n xs ran p.plans (from_blocks (Contains xs) id old (among_itself xs))
        (subst (λ (z : List (List Clip)). AreCuts f (plan_start s) (take n z) p.plans) layouts p.cuts)

    old_named : AreAmong (named_blocks s) xs
    old_named = old_names disk s is (Contains (named_blocks s)) (among_itself (named_blocks s))

    clipboard : IsClipboard s.block_size v
    clipboard = may_paste disk s is range fewer (found.0).layout has going v copies

    v_named : AreAmong every (strips_blocks v)
    v_named = strips_named disk s is range fewer (found.0).layout has going v copies (Contains every)
        (all_left (Contains every) (named_blocks s) (refs makes) (among_itself every))

    v_few : length (strips_blocks v) ≤ 2 ^ 71
    v_few = omega (arith, strips_short v p.items clipboard.short, clipboard.few)

    behind : clip_behind s planned ≡ Some v
    behind = ap (λ (z : Option (List (List Item))). clip_then z s.clipboard) p.clip_is

    pub cut_planned : IsPlanned s (tagged_by planned 0 0 (brought_by Nothing) (brought Nothing))
    cut_planned =
        run_planned disk s is id found.0 found.1 xs old_named (current_may_read disk s is)
        (each_so n f) p.plans laid planned p.laid none (Some v) behind numbers v_named v_few clipboard

    -- ---- what the line means

    -- a layout for each track
    draws : n ≡ planned.layouts
    draws = search (rules, wide_enough, tests, layouts, length-map, layout_of, length-replicate, laid_many, each_so, laid)

    few_made : length makes ≤ blocks_of_tracks n
    few_made =
        omega (
          arith,
          run_few disk s is id found.0 found.1 xs old_named (current_may_read disk s is) (each_so n f)
              p.plans laid planned p.laid,
          length-replicate {A = CellEdit} n (λ (src : Sources). f),
        )

    module _ (block : ℕ → ℕ → ℤ) where
      abbrev src : Sources
      src = alone block

      abbrev u : model.Studio
      u = studio_by src disk s

      clip_means : Some (copied id n from to (current u.state)) ≡ clip_cells src (clip_behind s planned)
      clip_means = search (rules, current_is, run_meant, copies_mean, layouts, behind)

      point_means : AreWritten src makes → run_edited id (replicate n f) (current u.state) ≡ meant src new
      point_means written =
          ap (run_edited id (replicate n f)) (current_is src s.history)
          ∙ (λ i. run_edited id (sym (same_edits src n f) i) (meant src old))
          ∙ sym (run_point disk s is id found.0 found.1 xs old_named (current_may_read disk s is)
          (each_so n f) p.plans laid planned p.laid block written)

      means : AreWritten src makes → after (outside u silent) u.state line
          ≡ record u.state {
            history = meant_history src (recorded s.history new 0);
            clipboard = clip_cells src (clip_behind s planned);
            next_track = s.next_track + planned.tracks;
            commit = s.commit_number + 1;
          }
      means written =
          let point = point_means written in
          let same : s.next_track ≡ s.next_track + planned.tracks = omega (arith, none) in
          after_by e range (outside u silent) u.state
          ∙ (λ i. record u.state {
            history = edited u.state.history (point i) 0;
            commit = s.commit_number + 1;
            clipboard = clip_means i;
          })
          ∙ (λ i. record u.state {
            history = sym (meant_recorded src s.history new 0) i;
            clipboard = clip_cells src (clip_behind s planned);
            next_track = same i;
            commit = s.commit_number + 1;
          })

    pub cut_edit : IsEdit disk s line silent (tagged_by planned 0 0 (brought_by Nothing) (brought Nothing))
    cut_edit = record {
      most = λ m st. blocks_of_tracks n;
      call = subst (λ (k : ℕ). IsEditCall line silent k 0 (λ m st. blocks_of_tracks n)) (sym none) (cut_call e range);
      few = λ block. few_made;
      own = λ block. own_is disk s is e range fewer block ∙ p.tests;
      layouts = λ block.
          let u = studio_by (alone block) disk s in draws_by e range (outside u silent) u.state ∙ draws;
      means = means;
    }
