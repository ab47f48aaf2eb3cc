-- A run of tracks laid out by plans: what holds of the new project, and of the blocks that are to be made for it.
use Rattle.editor_tracks.proofs.Common.{◌≡◌, inl, inr, ⊎_elim, refl, subst, ℕ, ◌+◌, ◌*◌, ◌≤◌, List, [], ◌∷◌, ◌++◌}
use Rattle.editor_tracks.proofs.Common.{length, length-append, map, Contains, arith, rules, leb_tells, map-append}
use Rattle.editor_tracks.proofs.Common.{AllByRecursion, BlockRef, Cell, Sources, IsLayout, layout_blocks, AllNewFrom}
use Rattle.editor_tracks.proofs.Common.{AreNew, AreOldOrNew, AreWritten, Means, Start, ref_of, NewBlock, Plan, Track}
use Rattle.editor_tracks.proofs.Common.{point_blocks, AreAbove, AllValidTracks, IsValidTrack, all_append, AreAmong}
use Rattle.editor_tracks.proofs.Common.{IsGiven, laid_from, made_by, all_left, all_right, refs, ids_clips}
use Rattle.editor_tracks.proofs.Common.{new_from_more, old_or_new}
use Rattle.std.proofs.Common.{drop}
use Rattle.clip_track.specs.Clips.{AllHalfFull}
use Rattle.clip_track.specs.Kept.{Keeps}
use Rattle.edit_ops.specs.Plans.{IsPlan}
use Rattle.record_body.specs.Valid.{AllClipsGiven}
use Rattle.editor_tracks.specs.RunEdits.{AreLayouts, laid_by}
use Rattle.editor_state.proofs.{Blocks.BlockLists.contained}
use Rattle.edit_ops.proofs.Named.{AreNew-append}

-- ---- plans, one for each track, each begun at the next id of the one before

-- what is made of the cells of a track
abbrev pub CellEdit : Type 0
CellEdit = Sources → List Cell → List Cell

pub record IsLaid (f : CellEdit) (m next : ℕ) (xs : List BlockRef) (t : Track) (p : Plan) : Type 0 where
  pub plan : IsPlan (record { block_size = m; next = next }) xs 0 p
  pub kept : Keeps p.kept (layout_blocks t.layout) (layout_blocks p.layout)
  pub cells : Means f t.layout p
  pub few : length p.makes ≤ 8

abbrev pub AreLaid : List CellEdit → ℕ → ℕ → List BlockRef → List Track → List Plan → Type 0
AreLaid [] m next xs ts [] = Unit {0}
AreLaid [] m next xs ts (p ∷ ps) = ⊥
AreLaid (f ∷ fs) m next xs [] [] = Unit {0}
AreLaid (f ∷ fs) m next xs [] (p ∷ ps) = ⊥
AreLaid (f ∷ fs) m next xs (t ∷ ts) [] = ⊥
AreLaid (f ∷ fs) m next xs (t ∷ ts) (p ∷ ps) = IsLaid f m next xs t p × AreLaid fs m p.next xs ts ps

-- the edits, by the samples of the blocks
abbrev pub edits_at : Sources → List CellEdit → List (List Cell → List Cell)
edits_at src fs = map (λ (f : CellEdit). f src) fs

-- ---- a plan of some blocks is one of more

old_or_new_more : (a xs : List BlockRef) (bs : List BlockRef) (ns : List NewBlock) → AreAmong xs a → AreOldOrNew a bs ns
    → AreOldOrNew xs bs ns
old_or_new_more a xs [] [] among h = tt
old_or_new_more a xs [] (n ∷ ns) among h = absurd h
old_or_new_more a xs (b ∷ bs) [] among h = (contained (Contains xs) a b among h.0, old_or_new_more a xs bs [] among h.1)
old_or_new_more a xs (b ∷ bs) (n ∷ ns) among h = ⊎_elim
    (λ was. inl (contained (Contains xs) a b among was.0, old_or_new_more a xs bs (n ∷ ns) among was.1))
    (λ new. inr (new.0, old_or_new_more a xs bs ns among new.1))
    h

pub plan_more : (start : Start) (a xs : List BlockRef) (p : Plan) → AreAmong xs a → IsPlan start a 0 p
    → IsPlan start xs 0 p
plan_more start a xs p among plan = search (rules, new_from_more, old_or_new_more)

-- ---- the blocks that are to be made for them

from_joined : (xs : List BlockRef) (count : ℕ) (ks bs : List NewBlock) → AllNewFrom xs count ks → AllNewFrom xs count bs
    → AllNewFrom xs count (ks ++ bs)
from_joined xs count [] bs a b = b
from_joined xs count (x ∷ ks) bs a b = (a.0, from_joined xs count ks bs a.1 b)

pub written_left : (src : Sources) (ks bs : List NewBlock) → AreWritten src (ks ++ bs) → AreWritten src ks
written_left src [] bs h = tt
written_left src (a ∷ ks) bs h = (h.0, written_left src ks bs h.1)

pub written_right : (src : Sources) (ks bs : List NewBlock) → AreWritten src (ks ++ bs) → AreWritten src bs
written_right src [] bs h = h
written_right src (a ∷ ks) bs h = written_right src ks bs h.1

pub laid_new : (fs : List CellEdit) (m next : ℕ) (xs : List BlockRef) (ts : List Track) (ps : List Plan)
    → AreLaid fs m next xs ts ps → AreNew m next (made_by ps)
laid_new [] m next xs ts [] laid = tt
laid_new [] m next xs ts (p ∷ ps) laid = absurd laid
laid_new (f ∷ fs) m next xs [] [] laid = tt
laid_new (f ∷ fs) m next xs [] (p ∷ ps) laid = absurd laid
laid_new (f ∷ fs) m next xs (t ∷ ts) [] laid = absurd laid
laid_new (f ∷ fs) m next xs (t ∷ ts) (p ∷ ps) laid =
    AreNew-append m next p.makes (made_by ps) laid.0.plan.new
    (subst (λ (k : ℕ). AreNew m k (made_by ps)) laid.0.plan.next_id (laid_new fs m p.next xs ts ps laid.1))

pub laid_origin : (fs : List CellEdit) (m next : ℕ) (xs : List BlockRef) (ts : List Track) (ps : List Plan)
    → AreLaid fs m next xs ts ps → AllNewFrom xs 0 (made_by ps)
laid_origin [] m next xs ts [] laid = tt
laid_origin [] m next xs ts (p ∷ ps) laid = absurd laid
laid_origin (f ∷ fs) m next xs [] [] laid = tt
laid_origin (f ∷ fs) m next xs [] (p ∷ ps) laid = absurd laid
laid_origin (f ∷ fs) m next xs (t ∷ ts) [] laid = absurd laid
laid_origin (f ∷ fs) m next xs (t ∷ ts) (p ∷ ps) laid =
    from_joined xs 0 p.makes (made_by ps) laid.0.plan.origin (laid_origin fs m p.next xs ts ps laid.1)

pub laid_few : (fs : List CellEdit) (m next : ℕ) (xs : List BlockRef) (ts : List Track) (ps : List Plan)
    → AreLaid fs m next xs ts ps → length (made_by ps) ≤ 8 * length fs
laid_few [] m next xs ts [] laid = omega arith
laid_few [] m next xs ts (p ∷ ps) laid = absurd laid
laid_few (f ∷ fs) m next xs [] [] laid = omega arith
laid_few (f ∷ fs) m next xs [] (p ∷ ps) laid = absurd laid
laid_few (f ∷ fs) m next xs (t ∷ ts) [] laid = absurd laid
laid_few (f ∷ fs) m next xs (t ∷ ts) (p ∷ ps) laid =
    omega (arith, length-append p.makes (made_by ps), laid.0.few, laid_few fs m p.next xs ts ps laid.1)

-- a plan for each, where there are as many tracks
pub laid_many : (fs : List CellEdit) (m next : ℕ) (xs : List BlockRef) (ts : List Track) (ps : List Plan)
    → AreLaid fs m next xs ts ps → length fs ≤ length ts → length ps ≡ length fs
laid_many [] m next xs ts [] laid few = refl
laid_many [] m next xs ts (p ∷ ps) laid few = absurd laid
laid_many (f ∷ fs) m next xs [] ps laid few = absurd (omega (arith, few))
laid_many (f ∷ fs) m next xs (t ∷ ts) [] laid few = absurd laid
laid_many (f ∷ fs) m next xs (t ∷ ts) (p ∷ ps) laid few =
    omega (arith, laid_many fs m p.next xs ts ps laid.1 (omega (arith, few)))

-- what holds of the blocks that the plans are of, and of the new ones, holds of those of each layout
abbrev pub LayoutsAll : (BlockRef → Type 0) → List Plan → Type 0
LayoutsAll P ps = AllByRecursion (λ (p : Plan). AllByRecursion P (layout_blocks p.layout)) ps

pub laid_all : (P : BlockRef → Type 0) (fs : List CellEdit) (m next : ℕ) (xs : List BlockRef) (ts : List Track)
    (ps : List Plan) → AreLaid fs m next xs ts ps
    → AllByRecursion P xs → AllByRecursion P (refs (made_by ps)) → LayoutsAll P ps
laid_all P [] m next xs ts [] laid old new = tt
laid_all P [] m next xs ts (p ∷ ps) laid old new = absurd laid
laid_all P (f ∷ fs) m next xs [] [] laid old new = tt
laid_all P (f ∷ fs) m next xs [] (p ∷ ps) laid old new = absurd laid
laid_all P (f ∷ fs) m next xs (t ∷ ts) [] laid old new = absurd laid
laid_all P (f ∷ fs) m next xs (t ∷ ts) (p ∷ ps) laid old new =
    let parts = subst (AllByRecursion P) (map-append ref_of p.makes (made_by ps)) new in (
      old_or_new P xs (layout_blocks p.layout) p.makes laid.0.plan.blocks old
          (all_left P (refs p.makes) (refs (made_by ps)) parts),
      laid_all P fs m p.next xs ts ps laid.1 old (all_right P (refs p.makes) (refs (made_by ps)) parts),
    )

abbrev pub HalfFull : ℕ → List Plan → Type 0
HalfFull m ps = AllByRecursion (λ (p : Plan). AllHalfFull m p.layout) ps

pub laid_half_full : (fs : List CellEdit) (m next : ℕ) (xs : List BlockRef) (ts : List Track) (ps : List Plan)
    → AreLaid fs m next xs ts ps → HalfFull m ps
laid_half_full [] m next xs ts [] laid = tt
laid_half_full [] m next xs ts (p ∷ ps) laid = absurd laid
laid_half_full (f ∷ fs) m next xs [] [] laid = tt
laid_half_full (f ∷ fs) m next xs [] (p ∷ ps) laid = absurd laid
laid_half_full (f ∷ fs) m next xs (t ∷ ts) [] laid = absurd laid
laid_half_full (f ∷ fs) m next xs (t ∷ ts) (p ∷ ps) laid = search (rules, laid_half_full fs m p.next xs ts ps laid.1)

-- ---- the tracks

id_by : (ps : List Plan) (number : ℕ) (t : Track) → (laid_by ps number t).id ≡ t.id
id_by [] number t = refl
id_by (p ∷ ps) number t = refl

pub laid_length : (id : ℕ) (ps : List Plan) (number : ℕ) (ts : List Track)
    → length (laid_from id ps number ts) ≡ length ts
laid_length id ps number [] = refl
laid_length id ps number (t ∷ ts) =
    search (rules, leb_tells, laid_length id (drop 1 ps) (number + 1) ts, laid_length id ps number ts)

pub laid_rising : (id n : ℕ) (ps : List Plan) (number : ℕ) (ts : List Track) → AreAbove n ts
    → AreAbove n (laid_from id ps number ts)
laid_rising id n ps number [] above = tt
laid_rising id n ps number (t ∷ ts) above =
    search (
      rules,
      id_by,
      leb_tells,
      laid_rising id (t.id + 1) (drop 1 ps) (number + 1) ts above.1,
      laid_rising id
          (t.id + 1) ps number ts above.1,
    )

module _ (P : BlockRef → Type 0) where
  all_by : (ps : List Plan) (number : ℕ) (t : Track) → LayoutsAll P ps → AllByRecursion P (layout_blocks t.layout)
      → AllByRecursion P (layout_blocks (laid_by ps number t).layout)
  all_by [] number t laid all = all
  all_by (p ∷ ps) number t laid all = laid.0

  rest_all : (ps : List Plan) → LayoutsAll P ps → LayoutsAll P (drop 1 ps)
  rest_all [] laid = tt
  rest_all (p ∷ ps) laid = laid.1

  pub laid_names : (id : ℕ) (ps : List Plan) (number : ℕ) (ts : List Track) → LayoutsAll P ps
      → AllByRecursion P (point_blocks ts) → AllByRecursion P (point_blocks (laid_from id ps number ts))
  laid_names id ps number [] laid all = tt
  laid_names id ps number (t ∷ ts) laid all =
      let here = all_left P (layout_blocks t.layout) (point_blocks ts) all in
      let later = all_right P (layout_blocks t.layout) (point_blocks ts) all in
      ⊎_elim
      (λ in_run. rw (in_run.0) (all_append P (layout_blocks (laid_by ps number t).layout)
      (point_blocks (laid_from id (drop 1 ps) (number + 1) ts)) (all_by ps number t laid here)
      (laid_names id (drop 1 ps) (number + 1) ts (rest_all ps laid) later)))
      (λ before. rw (before.0) (all_append P (layout_blocks t.layout) (point_blocks (laid_from id ps number ts)) here
      (laid_names id ps number ts laid later)))
      (leb_tells id t.id)

-- a plan whose layout a track of the project may have
pub record IsValidPlan (m next : ℕ) (p : Plan) : Type 0 where
  pub layout : IsLayout p.layout
  pub half_full : AllHalfFull m p.layout
  pub blocks : AllClipsGiven next p.layout

abbrev pub AreValidPlans : ℕ → ℕ → List Plan → Type 0
AreValidPlans m next ps = AllByRecursion (IsValidPlan m next) ps

pub valid_plans : (m next : ℕ) (ps : List Plan) → AreLayouts ps → HalfFull m ps
    → LayoutsAll (λ (b : BlockRef). IsGiven next b.id) ps → AreValidPlans m next ps
valid_plans m next [] layouts half all = tt
valid_plans m next (p ∷ ps) layouts half all = search (rules, ids_clips, valid_plans m next ps layouts.1 half.1 all.1)

module _ (m next track : ℕ) where
  valid_by : (ps : List Plan) (number : ℕ) (t : Track) → AreValidPlans m next ps → IsValidTrack m next track t
      → IsValidTrack m next track (laid_by ps number t)
  valid_by [] number t plans valid = valid
  valid_by (p ∷ ps) number t plans valid = search rules

  rest_valid : (ps : List Plan) → AreValidPlans m next ps → AreValidPlans m next (drop 1 ps)
  rest_valid [] plans = tt
  rest_valid (p ∷ ps) plans = plans.1

  pub laid_valid : (id : ℕ) (ps : List Plan) (number : ℕ) (ts : List Track) → AreValidPlans m next ps
      → AllValidTracks m next track ts → AllValidTracks m next track (laid_from id ps number ts)
  laid_valid id ps number [] plans all = tt
  laid_valid id ps number (t ∷ ts) plans all =
      search (
        rules,
        valid_by,
        rest_valid,
        leb_tells,
        laid_valid id (drop 1 ps) (number + 1) ts (rest_valid ps plans)
            all.1,
        laid_valid id ps number ts plans all.1,
      )
