-- A planned paste is an edit, and a step.
use Rattle.editor_tracks.proofs.Common.{◌≡◌, sym, ap, ◌∙◌, subst, ℕ, ◌+◌, ◌≤◌, ℤ, Option, Some, None, List, []}
use Rattle.editor_tracks.proofs.Common.{◌++◌, rules, length, map, take, Contains, arith, length-map, unwrap_or}
use Rattle.editor_tracks.proofs.Common.{AllByRecursion, BlockRef, Call, Line, Cell, run_edited, edited, recorded}
use Rattle.editor_tracks.proofs.Common.{Sources, outside, blocks_of_tracks, clip_of, current, after, Placing, placed}
use Rattle.editor_tracks.proofs.Common.{paste_line, Ghosts, AllNamed, IsNamed, Clip, Item, strip_cells}
use Rattle.editor_tracks.proofs.Common.{AreWritten, ArePastes, Nothing, brought, brought_by}
use Rattle.editor_tracks.proofs.Common.{meant, meant_history, point_blocks, Track, track_of}
use Rattle.editor_tracks.proofs.Common.{current_tracks, IsValidPoint, all_append, meant_recorded, HasNumbers, AreAmong}
use Rattle.editor_tracks.proofs.Common.{IsEdit, IsEditCall, IsPlanned, alone, blocks_with, clip_behind, clip_then}
use Rattle.editor_tracks.proofs.Common.{tagged_by, IsClipboard, IsGiven, IsStudio, MayPaste, clip_blocks, clip_cells}
use Rattle.editor_tracks.proofs.Common.{named_blocks, studio_by, Planned, Core, silent, run_of}
use Rattle.editor_tracks.proofs.Common.{strips_blocks, plan_start, among_itself, all_left, all_right, current_valid}
use Rattle.editor_tracks.proofs.Common.{old_names, current_may_read, current_is, refs}
use Rattle.editor_tracks.specs.{Pastes.IsPastePlan}
use Rattle.editor_tracks.proofs.CopyStrips.{from_blocks, from_track, layout_of, run_is}
use Rattle.editor_tracks.proofs.CutLaws.{there_of}
use Rattle.edit_ops.proofs.RunLists.{wide_enough}
use Rattle.editor_tracks.proofs.RunLaws.{run_few, run_planned, run_point}
use Rattle.editor_tracks.proofs.RunPlans.{AreLaid, CellEdit, edits_at, laid_many}
use Rattle.editor_tracks.proofs.PasteLaws.{each_strip, pastes_laid, same_edits, strips_may_read}
use Rattle.editor_tracks.proofs.PasteRefusals.{after_by, draws_by, own_is, paste_call}
use Rattle.pcm_base.specs.Studio as model

module _ {D : Type 0} (disk : Ghosts D) (s : Core D) (is : IsStudio disk s) (e : Placing) (id at : ℕ) where
  abbrev old : List Track
  old = current_tracks s.history

  abbrev line : Call
  line = Line (paste_line e id at)

  old_valid : IsValidPoint s.block_size s.next_block s.next_track old
  old_valid = current_valid disk s is

  module _ (planned : Planned) (p : IsPastePlan e id at s planned) (none : planned.tracks ≡ 0)
      (keeps : planned.clip ≡ None)
      (numbers : HasNumbers (current_tracks s.history) s.next_layout planned.point
      (s.next_layout + planned.layouts)) where
    open planned use {point as new, makes}

    abbrev v : List (List Item)
    v = p.strips

    abbrev xs : List BlockRef
    xs = point_blocks old ++ strips_blocks v

    abbrev ran : List Track
    ran = from_track id old

    abbrev edit : List Cell → List Cell → List Cell
    edit = placed e at

    abbrev fs : List CellEdit
    fs = each_strip edit v

    abbrev every : List BlockRef
    every = blocks_with s makes

    found : (x : Track) × (track_of id old ≡ Some x)
    found = search (rules, there_of)

    layouts : run_of id old ≡ map layout_of ran
    layouts = run_is id 1 old found.0 old_valid.rising found.1

    -- what holds of the blocks that the studio names holds of those of the clipboard
    clip_all : (P : BlockRef → Type 0) → AllByRecursion P (named_blocks s) → AllByRecursion P (clip_blocks s.clipboard)
    clip_all P all = search (rules, all_right)

    strips_all : (P : BlockRef → Type 0) → AllByRecursion P (named_blocks s) → AllByRecursion P (strips_blocks v)
    strips_all P all = search (rules, clip_all)

    xs_named : AreAmong (named_blocks s) xs
    xs_named = search (rules, among_itself, all_append, old_names, strips_all)

    board : IsClipboard s.block_size v
    board = subst (MayPaste s.block_size) p.clip_is is.clipboard

    xs_readable : AllNamed xs
    xs_readable =
        all_append IsNamed (point_blocks old) (strips_blocks v) (current_may_read disk s is)
        (strips_may_read s.block_size s.next_block is.format.block_most is.counters.block_most v p.items board.fits
        (strips_all (λ (b : BlockRef). IsGiven s.next_block b.id) is.ids))

    laid : AreLaid fs s.block_size s.next_block xs ran p.plans
    laid =
        let C : BlockRef → Type 0 = Contains xs in
        pastes_laid edit (plan_start s) xs v ran p.plans
        (from_blocks C id old (all_left C (point_blocks old) (strips_blocks v) (among_itself xs)))
        (all_right C (point_blocks old) (strips_blocks v) (among_itself xs))
        (subst (λ (z : List (List Clip)). ArePastes edit (plan_start s) v (take (length v) z) p.plans)
        layouts p.pastes)

    behind : clip_behind s planned ≡ s.clipboard
    behind = ap (λ (z : Option (List (List Item))). clip_then z s.clipboard) keeps

    pub paste_planned : IsPlanned s (tagged_by planned 0 0 (brought_by Nothing) (brought Nothing))
    paste_planned =
        let C : BlockRef → Type 0 = Contains every in
        run_planned disk s is id found.0 found.1 xs xs_named xs_readable fs p.plans laid planned p.laid none
        s.clipboard behind numbers
        (clip_all C (all_left C (named_blocks s) (refs makes) (among_itself every))) is.few_clips is.clipboard

    -- ---- what the line means

    module _ (block : ℕ → ℕ → ℤ) where
      abbrev src : Sources
      src = alone block

      abbrev u : model.Studio
      u = studio_by src disk s

      lists : clip_of u.state ≡ map (strip_cells src) v
      lists = ap (λ (z : Option (List (List Item))). unwrap_or (clip_cells src z) []) p.clip_is

      -- a layout for each track
      draws : length (clip_of u.state) ≡ planned.layouts
      draws = search (rules, wide_enough, layouts, length-map, layout_of, lists, laid_many, laid)

      few_made : length makes ≤ blocks_of_tracks (length (clip_of u.state))
      few_made =
          let made =
          run_few disk s is id found.0 found.1 xs xs_named xs_readable fs p.plans laid planned p.laid in
          let each : length fs ≡ length v = length-map v (λ (c : List Item). λ (z : Sources). edit (strip_cells z c)) in
          let many : length (clip_of u.state) ≡ length v = ap length lists ∙ length-map v (strip_cells src) in
          omega (arith, made, each, many)

      point_means : AreWritten src makes → run_edited id (map edit (clip_of u.state)) (current u.state) ≡ meant src new
      point_means written =
          let edits : map edit (clip_of u.state) ≡ edits_at src fs =
          ap (map edit) lists ∙ sym (same_edits src edit v) in
          (λ i. run_edited id (edits i) (current_is src s.history i))
          ∙ sym (run_point disk s is id found.0 found.1 xs xs_named xs_readable fs p.plans laid planned p.laid block
          written)

      means : AreWritten src makes → after (outside u silent) u.state line
          ≡ record u.state {
            history = meant_history src (recorded s.history new 0);
            clipboard = clip_cells src (clip_behind s planned);
            next_track = s.next_track + planned.tracks;
            commit = s.commit_number + 1;
          }
      means written =
          let point = point_means written in
          let same : s.next_track ≡ s.next_track + planned.tracks = omega (arith, none) in
          after_by e id at (outside u silent) u.state
          ∙ (λ i. record u.state { history = edited u.state.history (point i) 0; commit = s.commit_number + 1 })
          ∙ (λ i. record u.state {
            history = sym (meant_recorded src s.history new 0) i;
            clipboard = clip_cells src (sym behind i);
            next_track = same i;
            commit = s.commit_number + 1;
          })

    pub paste_edit : IsEdit disk s line silent (tagged_by planned 0 0 (brought_by Nothing) (brought Nothing))
    paste_edit = record {
      most = λ m st. blocks_of_tracks (length (clip_of st));
      call = subst (λ (k : ℕ). IsEditCall line silent k 0 (λ m st. blocks_of_tracks (length (clip_of st)))) (sym none)
          (paste_call e id at);
      few = few_made;
      own = λ block. own_is disk s is e id at block ∙ p.tests;
      layouts = λ block.
          let u = studio_by (alone block) disk s in draws_by e id at (outside u silent) u.state ∙ draws block;
      means = means;
    }
