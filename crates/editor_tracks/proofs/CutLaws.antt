-- A range of a run that is taken out into the clipboard, as an edit that makes blocks.
use Rattle.editor_tracks.proofs.Common.{◌≡◌, refl, sym, ap, ◌∙◌, subst, ℕ, zero, suc, ◌*◌, ◌^◌, ◌≤◌, nat_lt, rules}
use Rattle.editor_tracks.proofs.Common.{Option, Some, None, List, [], ◌∷◌, length, length-append, map, take, replicate}
use Rattle.editor_tracks.proofs.Common.{Contains, arith, length-map, none-some, AllByRecursion, ◌otherwise◌, bad_range}
use Rattle.editor_tracks.proofs.Common.{is_empty, refused_if, too_narrow, BlockRef, Refusal, Cell, Project, longest}
use Rattle.editor_tracks.proofs.Common.{tracks_from, Sources, Ghosts, AreItems, strip_len, Clip, Item}
use Rattle.editor_tracks.proofs.Common.{layout_blocks, AreCuts, copy_tests, longest_of, start_behind, Plan, Start}
use Rattle.editor_tracks.proofs.Common.{IsUndamaged, meant, meant_track, point_blocks, Track, AreAbove, track_of}
use Rattle.editor_tracks.proofs.Common.{current_tracks, AllValidTracks, run_of, strips_blocks, RunRange, NoCutPlan}
use Rattle.editor_tracks.proofs.Common.{Core, AreAmong, lacks, IsStudio, current_valid, lacks_is, all_left, all_right}
use Rattle.editor_tracks.proofs.Common.{TellsNone, either_tells, lacks_tells, tests_tell}
use Rattle.edit_ops.specs.Runs.{AllTracksHalfFull}
use Rattle.editor_tracks.proofs.CopyStrips.{from_valid, from_track, items_few, layout_of, longest_is, run_is, run_meant}
use Rattle.editor_tracks.proofs.RunPlans.{AreLaid, CellEdit, edits_at, plan_more}
use Rattle.editor_state.proofs.Refusals.DamageTests.{range_tells}
use Rattle.pcm_base.specs.declared.refusal.Refusal.TheVariants as refusal

-- ---- the run

tracks_half_full : (m next track : ℕ) (ts : List Track) → AllValidTracks m next track ts
    → AllTracksHalfFull m (map layout_of ts)
tracks_half_full m next track [] all = tt
tracks_half_full m next track (t ∷ ts) all = (all.0.half_full, tracks_half_full m next track ts all.1)

pub run_half_full : {D : Type 0} (disk : Ghosts D) (s : Core D) → IsStudio disk s → (id : ℕ) (t : Track)
    → track_of id (current_tracks s.history) ≡ Some t
    → AllTracksHalfFull s.block_size (run_of id (current_tracks s.history))
run_half_full disk s is id t found =
    let ts = current_tracks s.history in
    let valid = current_valid disk s is in
    subst (AllTracksHalfFull s.block_size) (sym (run_is id 1 ts t valid.rising found))
    (tracks_half_full s.block_size s.next_block s.next_track (from_track id ts)
    (from_valid s.block_size s.next_block s.next_track id ts valid.valid))

-- a run has a plan for each of the tracks that are cut
pub cuts_few : (edit : List Cell → List Cell) (start : Start) (n : ℕ) (run : List (List Clip)) (ps : List Plan)
    → AreCuts edit start (take n run) ps → length ps ≤ length run
cuts_few edit start zero run [] cuts = omega arith
cuts_few edit start zero run (p ∷ ps) cuts = absurd cuts
cuts_few edit start (suc n) [] [] cuts = omega arith
cuts_few edit start (suc n) [] (p ∷ ps) cuts = absurd cuts
cuts_few edit start (suc n) (t ∷ ts) [] cuts = absurd cuts
cuts_few edit start (suc n) (t ∷ ts) (p ∷ ps) cuts =
    omega (arith, cuts_few edit (start_behind start p) n ts ps cuts.1)

-- the same edit of each of this many tracks
abbrev pub each_so : ℕ → (List Cell → List Cell) → List CellEdit
each_so n edit = replicate n (λ (src : Sources). edit)

pub cuts_laid : (edit : List Cell → List Cell) (start : Start) (n : ℕ) (xs : List BlockRef) (ts : List Track)
    (ps : List Plan) → AreAmong xs (point_blocks ts) → AreCuts edit start (take n (map layout_of ts)) ps
    → AreLaid (each_so n edit) start.block_size start.next xs ts ps
cuts_laid edit start zero xs ts [] among cuts = tt
cuts_laid edit start zero xs ts (p ∷ ps) among cuts = absurd cuts
cuts_laid edit start (suc n) xs [] [] among cuts = tt
cuts_laid edit start (suc n) xs [] (p ∷ ps) among cuts = absurd cuts
cuts_laid edit start (suc n) xs (t ∷ ts) [] among cuts = absurd cuts
cuts_laid edit start (suc n) xs (t ∷ ts) (p ∷ ps) among cuts =
    let here = all_left (Contains xs) (layout_blocks t.layout) (point_blocks ts) among in
    let later = all_right (Contains xs) (layout_blocks t.layout) (point_blocks ts) among in (
      record {
        plan = plan_more start (layout_blocks t.layout) xs p here cuts.0.plan;
        kept = cuts.0.kept;
        cells = cuts.0.cells;
        few = cuts.0.few_made;
      },
      cuts_laid edit (start_behind start p) n xs ts ps later cuts.1,
    )

pub same_edits : (src : Sources) (n : ℕ) (edit : List Cell → List Cell)
    → edits_at src (each_so n edit) ≡ replicate n edit
same_edits src zero edit = refl
same_edits src (suc n) edit = ap (λ (z : List (List Cell → List Cell)). edit ∷ z) (same_edits src n edit)

-- short strips of items name few blocks
pub strips_short : (v : List (List Item)) → AllByRecursion AreItems v
    → AllByRecursion (λ strip. strip_len strip ≤ 2 ^ 32) v
    → length (strips_blocks v) ≤ length v * 2 ^ 32
strips_short [] items short = omega arith
strips_short (x ∷ xs) items short = search (rules, length-append, items_few, strips_short xs items.1 short.1)

-- ---- what refuses it

pub narrow_tells : (have need : ℕ) → TellsNone (too_narrow have need)
narrow_tells have need = search (rules, nat_lt)

pub no_cut_tells : {D : Type 0} (range : RunRange) (s : Core D) (why : Refusal) → NoCutPlan range s why
    → IsUndamaged why
no_cut_tells range s why not = search (rules, tests_tell, either_tells, lacks_tells, narrow_tells, range_tells)

-- the tests of the model's state are those of the run
pub run_tests_are : (src : Sources) (id n from to m next track : ℕ) (ts : List Track) → AreAbove 1 ts
    → AllValidTracks m next track ts → (o : Option Track) → track_of id ts ≡ o
    → ((refused_if (is_empty (tracks_from id (meant src ts))) (refusal.NoTrack id)) otherwise
    (too_narrow (length (tracks_from id (meant src ts))) n)
    otherwise (bad_range from to (longest (take n (tracks_from id (meant src ts))))))
    ≡ ((lacks id o) otherwise (copy_tests (run_of id ts) n from to))
run_tests_are src id n from to m next track ts above valid None found = search (rules, lacks_is)
run_tests_are src id n from to m next track ts above valid (Some t) found =
    let first = lacks_is src id ts ∙ ap (lacks id) found in
    let run = from_track id ts in
    let mean = run_meant src id ts in
    let layouts = run_is id 1 ts t above found in
    let few : length (tracks_from id (meant src ts)) ≡ length (run_of id ts) =
    ap length mean ∙ length-map run (meant_track src) ∙ sym (ap length layouts ∙ length-map run layout_of) in
    let long : longest (take n (tracks_from id (meant src ts))) ≡ longest_of (take n (run_of id ts)) =
    ap (λ (p : Project). longest (take n p)) mean
    ∙ longest_is m next track src n run (from_valid m next track id ts valid)
    ∙ sym (ap (λ (z : List (List Clip)). longest_of (take n z)) layouts) in
    λ i. (first i) otherwise (too_narrow (few i) n) otherwise (bad_range from to (long i))

-- a track that is not lacking is there
pub there_of : (id : ℕ) (ts : List Track) (rest : Option Refusal) (o : Option Track) → track_of id ts ≡ o
    → (lacks id o) otherwise rest ≡ None → (t : Track) × (track_of id ts ≡ Some t)
there_of id ts rest None found none = absurd (none-some (refusal.NoTrack id) (sym none))
there_of id ts rest (Some t) found none = (t, found)
