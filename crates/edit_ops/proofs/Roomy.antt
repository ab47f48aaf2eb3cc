-- The room that the strips of an insertion and of a change give their new blocks.
use Rattle.edit_ops.proofs.Common.{◌≡◌, ℕ, zero, suc, ◌+◌, ◌-◌, ◌*◌, ◌/◌, ◌<◌, ◌≤◌, inl, inr, true, false, List, []}
use Rattle.edit_ops.proofs.Common.{◌∷◌, ◌++◌, map, refl, sym, ap, ◌∙◌, arith, append_assoc, cases_lt, Old, Scaled, Zero}
use Rattle.edit_ops.proofs.Common.{Given, Piece, Sources, piece_len, part, sample_count, clip_count, First, Gap, Sound}
use Rattle.edit_ops.proofs.Common.{strip_len, strip_cells, part_items, gap_items, AreItems, rough_items, ItemsShort}
use Rattle.edit_ops.proofs.Common.{Item, strip_room, strip_cells-part, rest_items, front_items, with_inserted}
use Rattle.edit_ops.proofs.Common.{given_items, with_change, Change, Silence, Gain, piece_change, item_change}
use Rattle.std.proofs.Common.{Bool, if◌then◌else◌}
use Rattle.std.proofs.lemmas.Bool.{cases_Bool}
use Rattle.std.proofs.Math.Nat.{mul-le-mul_left, div-add-mod, mod-lt}
use Rattle.block_sequence.specs.{Fuse.is_whole, Room.Stand, Room.Behind, Room.Within, Room.spare}
use Rattle.block_sequence.proofs.HalfFull.{not_full}
use Rattle.clip_track.specs.Rough.{gap_next}
use Rattle.clip_track.proofs.Strips.{AreItems-part}
use Rattle.clip_track.proofs.RoomStrips.{spare_most, room-append, room_only_gap, room_front, room_back, no_room}
use Rattle.clip_track.proofs.CellCounts.{item_samples, item_starts, sample_count-strip, clip_starts-strip}
use Rattle.edit_ops.proofs.ChangedItems.{piece_len_change}

-- the items of a layout's strip: only where they are cut is anything laid out anew
pub record Smooth (m : ℕ) (xs : List Item) : Type 0 where
  pub items_ok : AreItems xs
  pub short : ItemsShort m xs
  pub smooth : rough_items m true true xs ≡ 0

-- the front of a strip, and its rest, by what stands before it
front_room : (m at : ℕ) (xs : List Item) → Smooth m xs → strip_room m First false (part_items 0 at xs) ≤ 3 * m
front_room m at xs h =
    omega (arith, room_front m First true at xs h.items_ok h.short, no_room m First true xs refl h.smooth)

rest_room : (m at e : ℕ) (s : Stand) (xs : List Item) → Smooth m xs → spare m s + 2 * m ≤ e → 3 * m ≤ e
    → strip_room m s true (rest_items at xs) ≤ e
rest_room m at e s xs h a b =
    omega (
      arith,
      room_back m e s First true at (strip_len xs) xs h.items_ok h.short (omega arith) a b,
      no_room m First true xs refl h.smooth,
    )

any_rest : (m at : ℕ) (s : Stand) (xs : List Item) → Smooth m xs → strip_room m s true (rest_items at xs) ≤ 4 * m
any_rest m at s xs h = rest_room m at (4 * m) s xs h (omega (arith, spare_most m s)) (omega arith)

-- a piece that is no whole block
new_piece : (m : ℕ) (s : Stand) (r : Bool) (p : Piece) (xs : List Item) → is_whole p ≡ false
    → strip_room m s r (Sound p ∷ xs) ≡ piece_len p + spare m s + strip_room m Within r xs
new_piece m First r p xs w =
    let n = not_full m p w in
    elim (cases_Bool (gap_next r xs)) [ inl g ↦ rw (n, w, g) refl | inr g ↦ rw (n, w, g) refl ]
new_piece m Behind r p xs w = rw (not_full m p w) refl
new_piece m Within r p xs w = rw (not_full m p w) refl

-- an insertion
given_room : (m count at : ℕ) (s : Stand) (xs : List Item) → Smooth m xs
    → strip_room m s true (given_items count ++ rest_items at xs) ≤ count + 5 * m
given_room m zero at s xs h = omega (arith, any_rest m at s xs h)
given_room m (suc n) at s xs h =
    omega (
      arith,
      new_piece m s true (Given 0 (suc n)) (rest_items at xs) refl,
      spare_most m s,
      rest_room m at (3 * m) Within xs h (omega arith) (omega arith),
    )

inserted_room : (m count at : ℕ) (xs : List Item) → Smooth m xs
    → strip_room m First true (with_inserted at (given_items count) xs) ≤ count + 8 * m
inserted_room m count at xs h =
    let a = part_items 0 at xs in
    let g = gap_items (at - strip_len xs) in
    omega (
      arith,
      ap (strip_room m First true) (append_assoc (front_items at xs) (given_items count) (rest_items at xs)),
      room-append m First true (count + 5 * m) (front_items at xs) (given_items count ++ rest_items at xs)
          (λ s. given_room m count at s xs h),
      room-append m First false 0 a g (λ s. omega (arith, room_only_gap m s false (at - strip_len xs))),
      front_room m at xs h,
    )

-- a change
not_whole : (change : Change) (p : Piece) → is_whole (piece_change change p) ≡ false
not_whole Silence p = refl
not_whole (Gain gain) (Old b from to) = refl
not_whole (Gain gain) (Scaled b from to g) = refl
not_whole (Gain gain) (Zero len) = refl
not_whole (Gain gain) (Given from to) = refl

abbrev stand_of : Bool → Stand
stand_of true = Within
stand_of false = First

spare_of : (m n : ℕ) (b : Bool) → spare m (stand_of b) + m * n ≡ m * ((if b then 0 else 1) + n)
spare_of m n true = omega arith
spare_of m n false = omega arith

changed_items : (m : ℕ) (change : Change) (b : Bool) (xs : List Item)
    → strip_room m (stand_of b) false (map (item_change change) xs) ≤ item_samples xs + m * item_starts b xs
changed_items m change b [] = omega arith
changed_items m change b (Gap n ∷ xs) = changed_items m change false xs
changed_items m change b (Sound p ∷ xs) = omega (
  arith,
  new_piece m (stand_of b) false (piece_change change p) (map (item_change change) xs) (not_whole change p),
  piece_len_change change p,
  spare_of m (item_starts true xs) b,
  changed_items m change true xs,
)

any_changed : (m : ℕ) (change : Change) (s : Stand) (xs : List Item)
    → strip_room m s false (map (item_change change) xs) ≤ item_samples xs + m * item_starts false xs + m
any_changed m change s [] = omega arith
any_changed m change s (Gap n ∷ xs) = omega (arith, changed_items m change false xs)
any_changed m change s (Sound p ∷ xs) = omega (
  arith,
  new_piece m s false (piece_change change p) (map (item_change change) xs) (not_whole change p),
  piece_len_change change p,
  spare_most m s,
  changed_items m change true xs,
)

changed_room : (m from to : ℕ) (change : Change) (xs : List Item) → Smooth m xs
    → strip_room m First true (with_change change from to xs)
    ≤ item_samples (part_items from (to - from) xs) + m * item_starts false (part_items from (to - from) xs) + 8 * m
changed_room m from to change xs h =
    let a = part_items 0 from xs in
    let p = part_items from (to - from) xs in
    let n = item_samples p + m * item_starts false p + m in
    omega (
      arith,
      room-append m First true (4 * m) (a ++ map (item_change change) p) (rest_items to xs) (λ s. any_rest m to s xs h),
      room-append m First false n a (map (item_change change) p) (λ s. any_changed m change s p),
      front_room m from xs h,
    )

-- blocks of at most m samples with so much room
few_blocks : (m k n c : ℕ) → 0 < m → m * k ≤ n + m * c + 8 * m → k ≤ 8 + n / m + c
few_blocks m k n c a h = elim (cases_lt (8 + n / m + c) k) [
  | inl b ↦
      let e : m * (9 + n / m + c) ≤ m * k = mul-le-mul_left m (omega arith) in
      absurd (omega (arith, e, div-add-mod n m, mod-lt n a))
  | inr b ↦ b
]

pub few_inserted : (m k count at : ℕ) (xs : List Item) → 0 < m → Smooth m xs
    → m * k ≤ strip_room m First true (with_inserted at (given_items count) xs) → k ≤ 8 + count / m
few_inserted m k count at xs a h b =
    omega (arith, few_blocks m k count 0 a (omega (arith, inserted_room m count at xs h)))

pub few_changed : (m k from to : ℕ) (change : Change) (src : Sources) (xs : List Item) → 0 < m → Smooth m xs
    → m * k ≤ strip_room m First true (with_change change from to xs)
    → (let cells = part from to (strip_cells src xs) in k ≤ 8 + sample_count cells / m + clip_count cells)
few_changed m k from to change src xs a h b =
    let p = part_items from (to - from) xs in
    let e = strip_cells-part src from (to - from) xs in
    let n : sample_count (part from to (strip_cells src xs)) ≡ item_samples p =
    ap sample_count (sym e) ∙ sample_count-strip src p in
    let c : clip_count (part from to (strip_cells src xs)) ≡ item_starts false p =
    ap clip_count (sym e) ∙ clip_starts-strip src false p (AreItems-part from (to - from) xs h.items_ok) in
    rw (n, c)
    (few_blocks m k (item_samples p) (item_starts false p) a (omega (arith, changed_room m from to change xs h)))
