-- Each project to which records lead is valid.
use Rattle.record_body.proofs.Common.{◌≡◌, ℕ, zero, suc, ◌+◌, ◌-◌, ◌≤◌, ◌<◌, ◌^◌, Bool, true, false, if◌then◌else◌}
use Rattle.record_body.proofs.Common.{List, [], ◌∷◌, ◌++◌, length, map, take, drop, refl, sym, subst, arith, Some}
use Rattle.record_body.proofs.Common.{slice_get, none-some, AllByRecursion, BlockRef, NoneEmpty, IsHalfFull, AllFull}
use Rattle.record_body.proofs.Common.{block_lens, History, edited, recorded, Clip, AreClips, AllHalfFull, clip_end}
use Rattle.record_body.proofs.Common.{layout_blocks, Track, point_blocks, Edit, Undo, Redo, Purge, AllGiven}
use Rattle.record_body.proofs.Common.{AllClipsGiven, AllValidTracks, IsValidBody, IsValidPoint, IsValidTagged, Saved}
use Rattle.record_body.proofs.Common.{new_project, before_of, after_body, IsNextIn, LeadIn, current_tracks}
use Rattle.record_body.proofs.Common.{first_tracks, Body}
use Rattle.std.proofs.lemmas.List.Elements.{All-from_recursion, recursion_from_All, All-push}
use Rattle.std.proofs.lemmas.List.Elements.{All-take, All-drop, All-weaker}
use Rattle.std.proofs.lemmas.Option.{same_Some}
use Rattle.std.specs.{Prelude.slice_index, List.All}
use Rattle.pcm_base.specs.declared.limits.TheConstants.{FIRST_BLOCK}
use Rattle.pcm_base.specs.History.{kept, ending_with, is_of_recording, amended, tag_of, tags_of, point_of}
use Rattle.sample_block.specs.Spelling.{IsBlock}
use Rattle.record_body.specs.{SavedValid.IsValidSaved}

given_more : (next more : ℕ) (bs : List BlockRef) → next ≤ more → AllGiven next bs → AllGiven more bs
given_more next more [] h g = tt
given_more next more (b ∷ bs) h g = (g.0, omega (arith, h, g.1), given_more next more bs h g.2)

clips_more : (next more : ℕ) (cs : List Clip) → next ≤ more → AllClipsGiven next cs → AllClipsGiven more cs
clips_more next more [] h g = tt
clips_more next more (c ∷ cs) h g = (given_more next more c.blocks h g.0, clips_more next more cs h g.1)

pub tracks_more : (m block track block' track' : ℕ) (ts : List Track) → block ≤ block' → track ≤ track'
    → AllValidTracks m block track ts → AllValidTracks m block' track' ts
tracks_more m block track block' track' [] p q s = tt
tracks_more m block track block' track' (t ∷ ts) p q s =
    (search (arith, s.0, clips_more), tracks_more m block track block' track' ts p q s.1)

pub tagged_more : (m block track commit block' track' commit' : ℕ) (p : List Track × ℕ) → block ≤ block'
    → track ≤ track' → commit ≤ commit' → IsValidTagged m block track commit p → IsValidTagged m block' track' commit' p
tagged_more m block track commit block' track' commit' p le le' le'' s = search (arith, tracks_more)

tag_low : (commit : ℕ) (ps : List (List Track × ℕ)) (i : ℕ) → AllByRecursion (λ p. p.1 ≤ commit) ps
    → slice_index (map tag_of ps) i ≤ commit
tag_low commit [] i all = omega arith
tag_low commit (p ∷ ps) zero all = all.0
tag_low commit (p ∷ ps) (suc i) all = tag_low commit ps i all.1

-- a point after others, and beyond the depth the oldest goes
ending_all : (P : List Track × ℕ → Type 0) (h : History (List Track)) (before : List (List Track × ℕ))
    (p : List Track × ℕ) → All P before → P p → All P (ending_with h before p).points
ending_all P h before p all one =
    All-drop P (length (before ++ p ∷ []) - h.depth) (before ++ p ∷ []) (All-push P before p all one)

by_test : (P : List Track × ℕ → Type 0) (depth : ℕ) (b : Bool) (x y : History (List Track))
    → All P x.points × (x.depth ≡ depth) → All P y.points × (y.depth ≡ depth)
    → All P (if b then x else y).points × ((if b then x else y).depth ≡ depth)
by_test P depth true x y p q = p
by_test P depth false x y p q = q

recorded_all : (P : List Track × ℕ → Type 0) (h : History (List Track)) (point : List Track) (tag : ℕ) → All P h.points
    → P (point, tag) → P (point, slice_index (tags_of h) h.cursor)
    → All P (recorded h point tag).points × ((recorded h point tag).depth ≡ h.depth)
recorded_all P h point tag all one other =
    by_test P h.depth (is_of_recording h tag) (amended h point) (edited h point tag) (
      ending_all P h (take h.cursor h.points) (point, slice_index (tags_of h) h.cursor)
          (All-take P h.cursor h.points all) other,
      refl,
    )
    (ending_all P h (kept h) (point, tag) (All-take P (h.cursor + 1) h.points all) one, refl)

-- one record later the points are as valid
points_later : (m : ℕ) (k : Saved) → All (IsValidTagged m k.next_block k.next_track k.commit) k.history.points
    → All (IsValidTagged m k.next_block k.next_track (k.commit + 1)) k.history.points
points_later m k = search arith

-- a record that says no point leaves the ids that are next
steady : (m depth count : ℕ) (k : Saved) (h : History (List Track))
    → All (IsValidTagged m k.next_block k.next_track (k.commit + 1)) h.points → h.depth ≡ depth
    → IsValidSaved m depth count k → IsValidSaved m depth (count + 1) (record k { history = h; commit = k.commit + 1 })
steady m depth count k h points same s = search arith

after_valid : (m depth count : ℕ) (k : Saved) (body : Body) → IsValidBody m (before_of k) body
    → IsValidSaved m depth count k
    → IsValidSaved m depth (count + 1) (after_body k body)
after_valid m depth count k (Edit tag next_block next_track point) valid s =
    search (
      arith,
      tagged_more m k.next_block k.next_track k.commit next_block next_track (k.commit + 1),
      recursion_from_All,
      recorded_all (IsValidTagged m next_block next_track (k.commit + 1)) k.history point tag,
      tag_low k.commit k.history.points k.history.cursor,
    )
after_valid m depth count k Undo valid s = steady m depth count k _ (points_later m k s.points) s.depth_is s
after_valid m depth count k Redo valid s = steady m depth count k _ (points_later m k s.points) s.depth_is s
after_valid m depth count k (Purge n) valid s = steady m depth count k _
    (All-drop (IsValidTagged m k.next_block k.next_track (k.commit + 1)) n k.history.points (points_later m k s.points))
    s.depth_is s

-- a record that may come next says a valid body
pub next_valid : (version m : ℕ) (k : Saved) (bytes : List ℕ) (body : Body) → IsNextIn version m k bytes body
    → IsValidBody m (before_of k) body
next_valid zero m k bytes body next = next.valid
next_valid (suc zero) m k bytes body next = next.valid
next_valid (suc (suc version)) m k bytes body next = next.valid

-- and leads from a valid project to a valid one
pub next_saved : (version m depth count : ℕ) (k : Saved) (bytes : List ℕ) (body : Body)
    → IsNextIn version m k bytes body
    → IsValidSaved m depth count k → IsValidSaved m depth (count + 1) (after_body k body)
next_saved version m depth count k bytes body next s = search (arith, after_valid, next_valid)

pub lead_valid : (version m depth count : ℕ) (k end : Saved) (bodies : List (List ℕ)) → LeadIn version m k bodies end
    → IsValidSaved m depth count k → IsValidSaved m depth (count + length bodies) end
lead_valid version m depth count k end [] lead s = search arith
lead_valid version m depth count k end (bytes ∷ bodies) lead s =
    let next = lead_valid version m depth (count + 1) (after_body k lead.0) end bodies lead.2
    (next_saved version m depth count k bytes lead.0 lead.1 s) in
    subst (λ (n : ℕ). IsValidSaved m depth n end) (omega arith) next

pub new_valid : (m depth : ℕ) → IsValidSaved m depth 0 (new_project depth)
new_valid m depth = search arith

-- its current point is valid
first_valid : (m block track commit : ℕ) (ps : List (List Track × ℕ)) → All (IsValidTagged m block track commit) ps
    → IsValidPoint m block track (first_tracks ps)
first_valid m block track commit [] all = record { few = omega arith; rising = tt; valid = tt }
first_valid m block track commit (p ∷ ps) all =
    (recursion_from_All (IsValidTagged m block track commit) (p ∷ ps) all).0.0

pub current_valid : (m depth count : ℕ) (k : Saved) → IsValidSaved m depth count k
    → IsValidPoint m k.next_block k.next_track (current_tracks k.history)
current_valid m depth count k s = first_valid m k.next_block k.next_track k.commit (drop k.history.cursor k.history.points)
    (All-drop (IsValidTagged m k.next_block k.next_track k.commit) k.history.cursor k.history.points s.points)

pub all_append : {X : Type 0} (P : X → Type 0) (xs ys : List X) → AllByRecursion P xs → AllByRecursion P ys
    → AllByRecursion P (xs ++ ys)
all_append P [] ys p q = q
all_append P (x ∷ xs) ys p q = (p.0, all_append P xs ys p.1 q)

abbrev pub IsBlockRef : BlockRef → Type 0
IsBlockRef b = IsBlock b.id b.len

-- a block at its bounds
block_valid : (m next : ℕ) (b : BlockRef) → m ≤ 262144 → next ≤ 2 ^ 62 → b.len ≤ m → 0 < b.len → FIRST_BLOCK ≤ b.id
    → b.id < next → IsBlockRef b
block_valid m next b few most fits some low given = search arith

full_blocks : (m next : ℕ) (bs : List BlockRef) → m ≤ 262144 → next ≤ 2 ^ 62 → AllFull m (block_lens bs) → NoneEmpty bs
    → AllGiven next bs → AllByRecursion IsBlockRef bs
full_blocks m next [] few most full some given = tt
full_blocks m next (b ∷ bs) few most full some given =
    search (arith, full_blocks m next bs few most full.1 some.1 given.2, block_valid)

clip_blocks : (m next : ℕ) (bs : List BlockRef) → m ≤ 262144 → next ≤ 2 ^ 62 → IsHalfFull m (block_lens bs)
    → NoneEmpty bs → AllGiven next bs → AllByRecursion IsBlockRef bs
clip_blocks m next [] few most full some given = tt
clip_blocks m next (b ∷ []) few most full some given = search (arith, block_valid)
clip_blocks m next (b ∷ c ∷ bs) few most full some given = full_blocks m next (b ∷ c ∷ bs) few most full some given

layout_valid : (m next from : ℕ) (cs : List Clip) → m ≤ 262144 → next ≤ 2 ^ 62 → AllHalfFull m cs → AreClips from cs
    → AllClipsGiven next cs → AllByRecursion IsBlockRef (layout_blocks cs)
layout_valid m next from [] few most full are given = tt
layout_valid m next from (c ∷ cs) few most full are given =
    search (arith, layout_valid m next (clip_end c + 1) cs few most full.1 are.3 given.1, all_append, clip_blocks)

tracks_valid : (m next track : ℕ) (ts : List Track) → m ≤ 262144 → next ≤ 2 ^ 62 → AllValidTracks m next track ts
    → AllByRecursion IsBlockRef (point_blocks ts)
tracks_valid m next track [] few most s = tt
tracks_valid m next track (t ∷ ts) few most s =
    search (arith, tracks_valid m next track ts few most s.1, all_append, layout_valid)

-- the blocks of its points are blocks
pub valid_blocks : (m depth count : ℕ) (k : Saved) → m ≤ 262144 → IsValidSaved m depth count k
    → All (λ p. All IsBlockRef (point_blocks p.0)) k.history.points
valid_blocks m depth count k few s =
    All-weaker (IsValidTagged m k.next_block k.next_track k.commit) (λ p. All IsBlockRef (point_blocks p.0))
    (λ p x. All-from_recursion IsBlockRef (point_blocks p.0)
    (tracks_valid m k.next_block k.next_track p.0 few s.block_most x.0.valid)) k.history.points s.points

pub at_cursor : (i : ℕ) (ps : List (List Track × ℕ)) (x : List Track) → slice_get (map point_of ps) i ≡ Some x
    → x ≡ first_tracks (drop i ps)
at_cursor zero [] x h = absurd (none-some x h)
at_cursor (suc i) [] x h = absurd (none-some x h)
at_cursor zero (p ∷ ps) x h = sym (same_Some p.0 x h)
at_cursor (suc i) (p ∷ ps) x h = at_cursor i ps x h
