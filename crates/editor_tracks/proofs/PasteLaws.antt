-- The strips of the clipboard that are put into a run, as an edit that makes blocks.
use Rattle.editor_tracks.proofs.Common.{◌≡◌, refl, sym, subst, ℕ, zero, suc, ◌^◌, ◌≤◌, ◌<◌, nat_lt, Bool, true}
use Rattle.editor_tracks.proofs.Common.{rules, false, Option, Some, None, List, [], ◌∷◌, ◌++◌, length, map, take}
use Rattle.editor_tracks.proofs.Common.{Contains, arith, length-map, unwrap_or, AllByRecursion, Old, Scaled, Zero}
use Rattle.editor_tracks.proofs.Common.{Given, is_empty, length_limit, refused_if, ◌otherwise◌, too_narrow, BlockRef}
use Rattle.editor_tracks.proofs.Common.{Refusal, Cell, Project, tracks_from, Sources, Placing, Ghosts, AllNamed}
use Rattle.editor_tracks.proofs.Common.{IsNamed, Gap, Sound, AreItems, strip_blocks, strip_cells, strip_len, Clip, Item}
use Rattle.editor_tracks.proofs.Common.{layout_blocks, length-layout, AreClips, ArePastes, clipboard_tests}
use Rattle.editor_tracks.proofs.Common.{start_behind, Plan, Start, IsUndamaged, meant, point_blocks, Track, AreAbove}
use Rattle.editor_tracks.proofs.Common.{track_of, current_tracks, AllValidTracks, all_append, run_of, strips_blocks}
use Rattle.editor_tracks.proofs.Common.{NoPastePlan, IsClipboard, IsGiven, IsStudio, MayPaste, clip_cells, Core}
use Rattle.editor_tracks.proofs.Common.{AreAmong, lacks, current_valid, lacks_is, all_left, all_right, TellsNone}
use Rattle.editor_tracks.proofs.Common.{either_tells, lacks_tells, tests_tell}
use Rattle.std.specs.{Prelude.is_none}
use Rattle.pcm_base.specs.Refusals.{pasted_lengths}
use Rattle.clip_track.specs.Items.{ItemsFit}
use Rattle.clip_track.proofs.{Strips.length-strip_cells}
use Rattle.edit_ops.specs.Runs.{lengths_of}
use Rattle.edit_ops.specs.{Placing.SumsFit}
use Rattle.editor_tracks.proofs.CopyStrips.{from_valid, from_track, layout_of, run_is, run_meant}
use Rattle.editor_tracks.proofs.CutLaws.{narrow_tells}
use Rattle.editor_tracks.proofs.RunPlans.{AreLaid, CellEdit, edits_at, plan_more}
use Rattle.pcm_base.specs.declared.refusal.Refusal.TheVariants as refusal

-- ---- the strips and the tracks that they go to

sums_of : (at m next track : ℕ) (cs : List (List Item)) (ts : List Track) → at < 2 ^ 63
    → AllByRecursion (λ strip. strip_len strip ≤ 2 ^ 32) cs → AllValidTracks m next track ts
    → SumsFit at cs (map layout_of ts)
sums_of at m next track [] ts low short valid = tt
sums_of at m next track (c ∷ cs) [] low short valid = tt
sums_of at m next track (c ∷ cs) (t ∷ ts) low short valid =
    (omega (arith, low, short.0, valid.0.layout.few), sums_of at m next track cs ts low short.1 valid.1)

pub sums_fit : {D : Type 0} (disk : Ghosts D) (s : Core D) → IsStudio disk s → (id at : ℕ) (t : Track)
    → track_of id (current_tracks s.history) ≡ Some t → at < 2 ^ 63
    → (v : List (List Item)) → s.clipboard ≡ Some v → SumsFit at v (run_of id (current_tracks s.history))
sums_fit disk s is id at t found low v clip =
    let ts = current_tracks s.history in
    let valid = current_valid disk s is in
    let board : IsClipboard s.block_size v = subst (MayPaste s.block_size) clip is.clipboard in
    subst (SumsFit at v) (sym (run_is id 1 ts t valid.rising found))
    (sums_of at s.block_size s.next_block s.next_track v (from_track id ts) low board.short
    (from_valid s.block_size s.next_block s.next_track id ts valid.valid))

-- a run has a plan for each strip
pastes_many : (edit : List Cell → List Cell → List Cell) (start : Start) (cs : List (List Item))
    (run : List (List Clip)) (ps : List Plan) → ArePastes edit start cs run ps → length ps ≡ length run
pastes_many edit start [] [] [] pastes = refl
pastes_many edit start (c ∷ cs) (t ∷ ts) (p ∷ ps) pastes =
    omega (arith, pastes_many edit (start_behind start p) cs ts ps pastes.1)
pastes_many edit start _ _ _ pastes = absurd pastes

take_few : (n : ℕ) (run : List (List Clip)) → length (take n run) ≤ length run
take_few zero run = omega arith
take_few (suc n) [] = omega arith
take_few (suc n) (t ∷ ts) = omega (arith, take_few n ts)

pub pastes_few : (edit : List Cell → List Cell → List Cell) (start : Start) (n : ℕ) (cs : List (List Item))
    (run : List (List Clip)) (ps : List Plan) → ArePastes edit start cs (take n run) ps
    → length ps ≤ length run
pastes_few edit start n cs run ps pastes =
    omega (arith, pastes_many edit start cs (take n run) ps pastes, take_few n run)

-- one strip for each track
abbrev pub each_strip : (List Cell → List Cell → List Cell) → List (List Item) → List CellEdit
each_strip edit cs = map (λ (c : List Item). λ (src : Sources). edit (strip_cells src c)) cs

pub pastes_laid : (edit : List Cell → List Cell → List Cell) (start : Start) (xs : List BlockRef)
    (cs : List (List Item)) (ts : List Track) (ps : List Plan) → AreAmong xs (point_blocks ts)
    → AreAmong xs (strips_blocks cs) → ArePastes edit start cs (take (length cs) (map layout_of ts)) ps
    → AreLaid (each_strip edit cs) start.block_size start.next xs ts ps
pastes_laid edit start xs [] ts [] old clip pastes = tt
pastes_laid edit start xs [] ts (p ∷ ps) old clip pastes = absurd pastes
pastes_laid edit start xs (c ∷ cs) [] ps old clip pastes = absurd pastes
pastes_laid edit start xs (c ∷ cs) (t ∷ ts) [] old clip pastes = absurd pastes
pastes_laid edit start xs (c ∷ cs) (t ∷ ts) (p ∷ ps) old clip pastes =
    let C : BlockRef → Type 0 = Contains xs in
    let mine = all_append C (layout_blocks t.layout) (strip_blocks c) (all_left C (layout_blocks t.layout)
    (point_blocks ts) old) (all_left C (strip_blocks c) (strips_blocks cs) clip) in (
      record {
        plan = plan_more start (layout_blocks t.layout ++ strip_blocks c) xs p mine pastes.0.plan;
        kept = pastes.0.kept;
        cells = pastes.0.cells;
        few = pastes.0.few_made;
      },
      pastes_laid edit (start_behind start p) xs cs ts ps (all_right C (layout_blocks t.layout) (point_blocks ts) old)
          (all_right C (strip_blocks c) (strips_blocks cs) clip) pastes.1,
    )

pub same_edits : (src : Sources) (edit : List Cell → List Cell → List Cell) (cs : List (List Item))
    → edits_at src (each_strip edit cs) ≡ map edit (map (strip_cells src) cs)
same_edits src edit [] = refl
same_edits src edit (c ∷ cs) = search (rules, same_edits src edit cs)

-- ---- its blocks may be read

module _ (m next : ℕ) (size : m ≤ 262144) (most : next ≤ 2 ^ 62) where
  strip_named : (xs : List Item) → AreItems xs → ItemsFit m xs
      → AllByRecursion (λ (b : BlockRef). IsGiven next b.id) (strip_blocks xs) → AllNamed (strip_blocks xs)
  strip_named [] items fit ids = tt
  strip_named (Gap n ∷ xs) items fit ids = strip_named xs items.1 fit.1 ids
  strip_named (Sound (Old b from to) ∷ xs) items fit ids = search (rules, strip_named xs items.1 fit.1 ids.1)
  strip_named (Sound (Scaled b from to gain) ∷ xs) items fit ids = search (rules, strip_named xs items.1 fit.1 ids.1)
  strip_named (Sound (Zero len) ∷ xs) items fit ids = strip_named xs items.1 fit.1 ids
  strip_named (Sound (Given from to) ∷ xs) items fit ids = strip_named xs items.1 fit.1 ids

  pub strips_may_read : (v : List (List Item)) → AllByRecursion AreItems v → AreClips m v
      → AllByRecursion (λ (b : BlockRef). IsGiven next b.id) (strips_blocks v) → AllNamed (strips_blocks v)
  strips_may_read [] items clips ids = tt
  strips_may_read (c ∷ cs) items clips ids =
      let Q : BlockRef → Type 0 = λ b. IsGiven next b.id in
      all_append IsNamed (strip_blocks c) (strips_blocks cs)
      (strip_named c items.0 clips.0.fit (all_left Q (strip_blocks c) (strips_blocks cs) ids))
      (strips_may_read cs items.1 clips.1 (all_right Q (strip_blocks c) (strips_blocks cs) ids))

-- ---- what refuses it

limits_tell : (lens : List ℕ) → TellsNone (length_limit lens)
limits_tell [] = tt
limits_tell (len ∷ lens) = either_tells (refused_if (nat_lt (2 ^ 32) len) (refusal.LengthLimit len)) (length_limit lens)
    (by (nat_lt (2 ^ 32) len)) (limits_tell lens)
  where
    by : (b : Bool) → TellsNone (refused_if b (refusal.LengthLimit len))
    by true = tt
    by false = tt

clip_tells : (f : ℕ → ℕ → ℕ) (clip : Option (List (List Item))) (run : List (List Clip))
    → TellsNone (clipboard_tests f clip run)
clip_tells f None run = tt
clip_tells f (Some v) run = search (rules, either_tells, narrow_tells, limits_tell)

pub no_paste_tells : {D : Type 0} (e : Placing) (id at : ℕ) (s : Core D) (why : Refusal)
    → NoPastePlan e id at s why → IsUndamaged why
no_paste_tells e id at s why not = search (rules, tests_tell, either_tells, lacks_tells, clip_tells)

-- ---- the tests of the model's state are those of the run

lengths_are : (src : Sources) (f : ℕ → ℕ → ℕ) (m next track : ℕ) (cs : List (List Item)) (ts : List Track)
    → AllValidTracks m next track ts
    → pasted_lengths f (map (strip_cells src) cs) (meant src ts) ≡ lengths_of f cs (map layout_of ts)
lengths_are src f m next track [] [] valid = refl
lengths_are src f m next track [] (t ∷ ts) valid = refl
lengths_are src f m next track (c ∷ cs) [] valid = refl
lengths_are src f m next track (c ∷ cs) (t ∷ ts) valid =
    search (rules, length-strip_cells, length-layout, lengths_are src f m next track cs ts valid.1)

-- the own tests of both lines
abbrev pub line_tests : (f : ℕ → ℕ → ℕ) (id : ℕ) → Option (List (List Cell)) → List (List Cell) → Project
    → Option Refusal
line_tests f id board lists p =
    (refused_if (is_empty (tracks_from id p)) (refusal.NoTrack id)) otherwise
    (refused_if (is_none board) refusal.EmptyClipboard)
    otherwise (too_narrow (length (tracks_from id p)) (length lists))
    otherwise (length_limit (pasted_lengths f lists (tracks_from id p)))

pub line_tests_are : (src : Sources) (f : ℕ → ℕ → ℕ) (id m next track : ℕ) (clip : Option (List (List Item)))
    (ts : List Track) → AreAbove 1 ts → AllValidTracks m next track ts
    → (o : Option Track) → track_of id ts ≡ o
    → line_tests f id (clip_cells src clip) (unwrap_or (clip_cells src clip) []) (meant src ts)
    ≡ ((lacks id o) otherwise (clipboard_tests f clip (run_of id ts)))
line_tests_are src f id m next track None ts above valid o found = search (rules, lacks_is)
line_tests_are src f id m next track (Some v) ts above valid None found = search (rules, lacks_is)
line_tests_are src f id m next track (Some v) ts above valid (Some t) found =
    search (rules, lacks_is, from_track, run_meant, run_is, length-map, layout_of, lengths_are, from_valid)
