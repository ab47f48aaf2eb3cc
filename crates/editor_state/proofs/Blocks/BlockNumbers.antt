-- How many blocks there may be.
use Rattle.editor_state.proofs.Common.{rules, ◌≡◌, refl, ap, ℕ, zero, suc, ◌+◌, ◌*◌, ◌^◌, ◌≤◌, ◌<◌, eqb, List, [], ◌∷◌}
use Rattle.editor_state.proofs.Common.{length, flat_map, length-append, IsSome, if◌then◌else◌, false, arith, Option}
use Rattle.editor_state.proofs.Common.{None, Some, eqb_tells, AllByRecursion, BlockRef, Clip, AreClips, clip_end}
use Rattle.editor_state.proofs.Common.{layout_blocks, Track, point_blocks, history_blocks, AllValidTracks, IsValidPoint}
use Rattle.editor_state.proofs.Common.{Ghosts, occurrences, IsStudio, named_blocks, pin_blocks, Core, times_named}
use Rattle.clip_track.specs.Clips.{IsLayout, end_of}
use Rattle.editor_state.proofs.Blocks.NamedBlocks.{counted_most, named_counted, numbers_few}
use Rattle.editor_state.proofs.Lists.{all_so}
use Rattle.record_body.proofs.Parts.{blocks_few}

pub some_count : (o : Option ℕ) → 0 < occurrences o → IsSome o
some_count None h = absurd (omega (arith, h))
some_count (Some n) h = refl

pub named_most : (id : ℕ) (bs : List BlockRef) → times_named id bs ≤ length bs
named_most id [] = omega arith
named_most id (b ∷ bs) = search (rules, eqb_tells, named_most id bs)

-- ---- of a point

clips_few : (from at : ℕ) (cs : List Clip) → AreClips from cs → at ≤ from
    → length (layout_blocks cs) + at ≤ end_of at cs
clips_few from at [] h le = omega arith
clips_few from at (c ∷ cs) h le =
    search (rules, blocks_few, length-append, h.2, h.3, clips_few (clip_end c + 1) (clip_end c) cs h.3 (omega arith))

layout_few : (cs : List Clip) → IsLayout cs → length (layout_blocks cs) ≤ 2 ^ 32
layout_few cs h = omega (arith, clips_few 0 0 cs h.apart (omega arith), h.few)

tracks_few : (m next_block next_track : ℕ) (ts : List Track) → AllValidTracks m next_block next_track ts
    → length (point_blocks ts) ≤ length ts * 2 ^ 32
tracks_few m next_block next_track [] h = omega arith
tracks_few m next_block next_track (t ∷ ts) h =
    search (rules, layout_few, length-append, tracks_few m next_block next_track ts h.1)

pub point_few : (m next_block next_track : ℕ) (ts : List Track) → IsValidPoint m next_block next_track ts
    → length (point_blocks ts) ≤ 2 ^ 38
point_few m next_block next_track ts h = omega (arith, tracks_few m next_block next_track ts h.valid, h.few)

-- ---- of all

parts_few : {X : Type 0} (f : X → List BlockRef) (xs : List X) → AllByRecursion (λ x. length (f x) ≤ 2 ^ 38) xs
    → length (flat_map f xs) ≤ length xs * 2 ^ 38
parts_few f [] h = omega arith
parts_few f (x ∷ xs) h = omega (arith, h.0, parts_few f xs h.1, length-append (f x) (flat_map f xs))

module _ {D : Type 0} (disk : Ghosts D) (s : Core D) (is : IsStudio disk s) where
  history_few : length (history_blocks s.history) ≤ 2 ^ 54
  history_few = search (rules, all_so, point_few, parts_few)

  pins_few : length (pin_blocks s.pins) ≤ 2 ^ 100
  pins_few = search (rules, all_so, point_few, parts_few, numbers_few)

  pub named_few : length (named_blocks s) < 2 ^ 101
  named_few = search (rules, history_few, pins_few, length-append)

  -- the counts have room for a point more
  pub few_more : (ts : List Track) (next_track : ℕ) → IsValidPoint s.block_size s.next_block next_track ts → (id : ℕ)
      → occurrences (s.counts id) + times_named id (point_blocks ts) < 2 ^ 128
  few_more ts next_track h id =
      omega (
        arith,
        counted_most disk s is id,
        named_most id (named_blocks s),
        named_few,
        named_most id (point_blocks ts),
        point_few s.block_size s.next_block next_track ts h,
      )

-- ---- which ids are there

pub absent : (id : ℕ) (bs : List BlockRef) → times_named id bs ≡ 0
    → AllByRecursion (λ (b : BlockRef). eqb b.id id ≡ false) bs
absent id [] none = tt
absent id (b ∷ bs) none = search (rules, eqb_tells, absent id bs (omega (arith, none)))

none_of : (id : ℕ) (bs : List BlockRef) → AllByRecursion (λ (b : BlockRef). eqb b.id id ≡ false) bs
    → times_named id bs ≡ 0
none_of id [] all = refl
none_of id (b ∷ bs) all = omega (arith, ap {B = ℕ} (λ t. if t then 1 else 0) all.0, none_of id bs all.1)

-- what only names blocks that are named finds them counted
pub named_there : {D : Type 0} (disk : Ghosts D) (s : Core D) → IsStudio disk s → (bs : List BlockRef)
    → ((P : BlockRef → Type 0) → AllByRecursion P (named_blocks s) → AllByRecursion P bs)
    → (id : ℕ) → 0 < times_named id bs → IsSome (s.counts id)
named_there disk s is bs covers id some = go (times_named id (named_blocks s)) refl
  where
    go : (n : ℕ) → times_named id (named_blocks s) ≡ n → IsSome (s.counts id)
    go zero none = absurd
        (omega (arith, some, none_of id bs (covers (λ b. eqb b.id id ≡ false) (absent id (named_blocks s) none))))
    go (suc n) more = some_count (s.counts id) (named_counted disk s is id (omega (arith, more)))
