-- Ids of blocks from one place up to another.
use Rattle.layout_uses.proofs.Common.{◌≡◌, sym, ap, ◌∙◌, subst, ℕ, ◌+◌, ◌-◌, ◌≤◌, List, [], ◌++◌, length}
use Rattle.layout_uses.proofs.Common.{take, drop, append_assoc, append-nil, arith, slice_get, Some, BlockRef, Clip}
use Rattle.layout_uses.proofs.Common.{ids_of}
use Rattle.layout_uses.proofs.Common.{layout_blocks, length-append, length-map, map-append, drop-map, take-append-drop}
use Rattle.std.proofs.Common.{ap₂, flat_map}
use Rattle.std.proofs.lemmas.List.{drop-drop, take-map}
use Rattle.block_sequence.specs.Rows.{flat, from_to}
use Rattle.block_sequence.proofs.FromTo.{from_to-append, from_to_past}
use Rattle.clip_track.specs.{Kept.Keeps, declared.kept.Kept.Kept}
use Rattle.row_ledger.specs.Rows.{like}
use Rattle.layout_uses.proofs.Turns.{layout_flat, next, rows_flat}

-- The ids of the blocks from one place up to another come after others. What follows the blocks has its places from
-- `skip` up to `end`.
pub record IsPart (from to : ℕ) (all : List BlockRef) (before now : List ℕ) (skip end : ℕ) : Type 0 where
  pub ids : now ≡ before ++ ids_of (from_to from to all)
  pub at_skip : skip ≡ from - length all
  pub at_end : end ≡ to - length all

no_part : (from to : ℕ) (before : List ℕ) → before ≡ before ++ ids_of (from_to from to [])
no_part from to before = sym (ap (λ z. before ++ ids_of z) (from_to_past from to [] (omega arith)) ∙ append-nil before)

pub part_init : (from to : ℕ) (before : List ℕ) → IsPart from to [] before before from to
part_init from to before = record { ids = no_part from to before; at_skip = omega arith; at_end = omega arith }

module _ {X : Type 0} (f : X → List BlockRef) (xs : List X) (i : ℕ) (x : X) (here : slice_get xs i ≡ Some x) where
  pub len_on : length (flat_map f (take (i + 1) xs)) ≡ length (flat_map f (take i xs)) + length (f x)
  len_on = ap length (next f xs i x here) ∙ length-append (flat_map f (take i xs)) (f x)

  pub part_on : (from to skip end skip' end' : ℕ) (before mid after : List ℕ)
      → IsPart from to (flat_map f (take i xs)) before mid skip end → after ≡ mid ++ ids_of (from_to skip end (f x))
      → skip' ≡ skip - length (f x) → end' ≡ end - length (f x)
      → IsPart from to (flat_map f (take (i + 1) xs)) before after skip' end'
  part_on from to skip end skip' end' before mid after was more s e =
      let ys = flat_map f (take i xs) in
      let a = from - length ys in
      let b = to - length ys in
      record {
        ids =
            more
            ∙ ap₂ (λ (n m : ℕ). mid ++ ids_of (from_to n m (f x))) was.at_skip was.at_end
            ∙ ap (λ (z : List ℕ). z ++ ids_of (from_to a b (f x))) was.ids
            ∙ append_assoc before (ids_of (from_to from to ys)) (ids_of (from_to a b (f x)))
            ∙ ap (λ (z : List ℕ). before ++ z)
            (sym (map-append (λ (c : BlockRef). c.id) (from_to from to ys) (from_to a b (f x)))
            ∙ ap ids_of (sym (from_to-append from to ys (f x)) ∙ ap (from_to from to) (sym (next f xs i x here))));
        at_skip = omega (arith, s, was.at_skip, len_on);
        at_end = omega (arith, e, was.at_end, len_on);
      }

-- one row more
pub part_rows : (rs : List (List BlockRef)) (i : ℕ) (r : List BlockRef) → slice_get rs i ≡ Some r
    → (from to skip end skip' end' : ℕ) (before mid after : List ℕ)
    → IsPart from to (flat (take i rs)) before mid skip end → after ≡ mid ++ ids_of (from_to skip end r)
    → skip' ≡ skip - length r → end' ≡ end - length r
    → IsPart from to (flat (take (i + 1) rs)) before after skip' end'
part_rows rs i r here from to skip end skip' end' before mid after was more s e =
    subst (λ (z : List BlockRef). IsPart from to z before after skip' end') (sym (rows_flat (take (i + 1) rs)))
    (part_on (λ (x : List BlockRef). x) rs i r here from to skip end skip' end' before mid after
    (subst (λ (z : List BlockRef). IsPart from to z before mid skip end) (rows_flat (take i rs)) was) more s e)

-- one clip more
pub part_clips : (cs : List Clip) (i : ℕ) (c : Clip) → slice_get cs i ≡ Some c
    → (from to skip end skip' end' : ℕ) (before mid after : List ℕ)
    → IsPart from to (layout_blocks (take i cs)) before mid skip end
    → after ≡ mid ++ ids_of (from_to skip end c.blocks) → skip' ≡ skip - length c.blocks
    → end' ≡ end - length c.blocks → IsPart from to (layout_blocks (take (i + 1) cs)) before after skip' end'
part_clips cs i c here from to skip end skip' end' before mid after was more s e =
    subst (λ (z : List BlockRef). IsPart from to z before after skip' end') (sym (layout_flat (take (i + 1) cs)))
    (part_on (λ (x : Clip). x.blocks) cs i c here from to skip end skip' end' before mid after
    (subst (λ (z : List BlockRef). IsPart from to z before mid skip end) (layout_flat (take i cs)) was) more s e)

-- how many blocks there are with one clip more
pub count_on : (cs : List Clip) (i : ℕ) (c : Clip) → slice_get cs i ≡ Some c
    → length (layout_blocks (take (i + 1) cs)) ≡ length (layout_blocks (take i cs)) + length c.blocks
count_on cs i c here = omega (
  arith,
  len_on (λ (x : Clip). x.blocks) cs i c here,
  ap length (layout_flat (take (i + 1) cs)),
  ap length (layout_flat (take i cs)),
)

-- ---- a row

pub row_outside : (from to : ℕ) (before : List ℕ) (row : List BlockRef) → from_to from to row ≡ []
    → before ≡ before ++ ids_of (from_to from to row)
row_outside from to before row none = sym (ap (λ z. before ++ ids_of z) none ∙ append-nil before)

-- ---- a list that keeps ids of another one at both ends

ids_part : (from to : ℕ) (bs : List BlockRef) → ids_of (from_to from to bs) ≡ from_to from to (ids_of bs)
ids_part from to bs = sym (ap (take (to - from)) (drop-map (λ (b : BlockRef). b.id) from bs)
    ∙ take-map (λ (b : BlockRef). b.id) (to - from) (drop from bs))

kept_like : (k : Kept) (xs ids : List ℕ) (to : ℕ) → Keeps k xs ids → to ≡ length ids - k.back
    → like xs k.front k.back (from_to k.front to ids) ≡ ids
kept_like k xs ids to keeps at =
    let mid = from_to k.front to ids in
    let n : k.front + (to - k.front) ≡ to = omega (arith, at, keeps.in_new) in
    ap₂ (λ (a b : List ℕ). a ++ (mid ++ b)) (sym keeps.front) (sym keeps.back)
    ∙ ap (λ (m : ℕ). take k.front ids ++ (mid ++ drop m ids)) (sym at ∙ sym n)
    ∙ ap (λ (z : List ℕ). take k.front ids ++ (mid ++ z)) (sym (drop-drop (to - k.front) k.front ids))
    ∙ ap (λ (z : List ℕ). take k.front ids ++ z) (take-append-drop (to - k.front) (drop k.front ids))
    ∙ take-append-drop k.front ids

-- the ids between are those of the blocks between
pub blocks_like : (k : Kept) (xs : List ℕ) (bs : List BlockRef) (to : ℕ) (mid : List ℕ) → Keeps k xs (ids_of bs)
    → to ≡ length bs - k.back → mid ≡ ids_of (from_to k.front to bs) → like xs k.front k.back mid ≡ ids_of bs
blocks_like k xs bs to mid keeps at is =
    ap (like xs k.front k.back) (is ∙ ids_part k.front to bs)
    ∙ kept_like k xs (ids_of bs) to keeps (omega (arith, at, length-map bs (λ (b : BlockRef). b.id)))

pub kept_room : (k : Kept) (xs : List ℕ) (bs : List BlockRef) → Keeps k xs (ids_of bs) → k.front + k.back ≤ length bs
kept_room k xs bs keeps = omega (arith, keeps.in_new, length-map bs (λ (b : BlockRef). b.id))
