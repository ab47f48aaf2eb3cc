-- A piece of a recording after another of it, and a track that is edited twice.
use Rattle.std.proofs.Common.{◌≡◌, ◌==◌, ◌∙◌, refl, sym, ap, ℕ, ◌+◌, ◌-◌, ◌≤◌, Bool, true, false, List, [], ◌∷◌, ◌++◌}
use Rattle.std.proofs.Common.{length, map, take, drop, arith}
use Rattle.std.proofs.lemmas.Bool.{eqb-true, eq-eqb, ne_eqb}
use Rattle.std.proofs.lemmas.List.{drop-append-le, length-drop, length_push}
use Rattle.std.specs.Prelude.{if◌then◌else◌, slice_index, ◌&&◌, not}
use Rattle.pcm_base.specs.Cells.{Project, cells_at, cells_of_first, each_edited, edited_at, tracks_from}
use Rattle.pcm_base.specs.History.{History, amended, edited, ending_with, is_of_recording, kept, recorded, tag_of}
use Rattle.pcm_base.specs.declared.sound.Cell.{Cell}
use Rattle.pcm_base.specs.{Cells.with_cells, History.tags_of, Refusals.is_empty, State.first_point}

same_number : (n : ℕ) → (n == n) ≡ true
same_number n = eq-eqb n n refl

some_number : (n : ℕ) → 1 ≤ n → (n == 0) ≡ false
some_number n some = ne_eqb n 0 (λ none. omega (arith, none, some))

both_parts : (a b : Bool) → (a && b) ≡ true → b ≡ true
both_parts true b e = e
both_parts false b e = let no : ⊥ = cc in absurd no

-- ---- histories

module _ {P : Type 0} where
  -- some points, and then one that is the last and the current one
  abbrev pub last_is : ℕ → List (P × ℕ) → P × ℕ → History P
  last_is depth front x = record { points = front ++ x ∷ []; cursor = length front; depth = depth }

  -- the points that stay before a new one
  abbrev staying : ℕ → List (P × ℕ) → List (P × ℕ)
  staying depth before = drop (length before + 1 - depth) before

  ending_is : (h : History P) (before : List (P × ℕ)) (x : P × ℕ) → 1 ≤ h.depth
      → ending_with h before x ≡ last_is h.depth (staying h.depth before) x
  ending_is h before x some =
      let xs = before ++ x ∷ [] in
      let k = length before + 1 - h.depth in
      let long : length xs ≡ length before + 1 = length_push before x in
      let points : drop (length xs - h.depth) xs ≡ staying h.depth before ++ x ∷ [] =
      ap (λ (n : ℕ). drop (n - h.depth) xs) long ∙ drop-append-le k before (x ∷ []) (omega arith) in
      let last : length (staying h.depth before ++ x ∷ []) - 1 ≡ length (staying h.depth before) =
      omega (arith, length_push (staying h.depth before) x) in
      ap (λ (ps : List (P × ℕ)). record { points = ps; cursor = length ps - 1; depth = h.depth }) points
      ∙ ap (λ (n : ℕ). record { points = staying h.depth before ++ x ∷ []; cursor = n; depth = h.depth }) last

  staying_few : (depth : ℕ) (before : List (P × ℕ)) → 1 ≤ depth → length (staying depth before) + 1 ≤ depth
  staying_few depth before some = omega (arith, length-drop (length before + 1 - depth) before)

  front_is : (front : List (P × ℕ)) (x : P × ℕ) → take (length front) (front ++ x ∷ []) ≡ front
  front_is [] x = refl
  front_is (y ∷ ys) x = ap (λ (l : List (P × ℕ)). y ∷ l) (front_is ys x)

  tag_is : (front : List (P × ℕ)) (x : P × ℕ) → slice_index (map tag_of (front ++ x ∷ [])) (length front) ≡ x.1
  tag_is [] x = refl
  tag_is (y ∷ ys) x = tag_is ys x

  -- nothing goes where there is room
  room_is : (h : History P) (front : List (P × ℕ)) (x : P × ℕ) → length front + 1 ≤ h.depth
      → ending_with h front x ≡ last_is h.depth front x
  room_is h front x few =
      let xs = front ++ x ∷ [] in
      let long : length xs ≡ length front + 1 = length_push front x in
      let none : length xs - h.depth ≡ 0 = omega (arith, long) in
      ap (λ (n : ℕ). record { points = drop n xs; cursor = length (drop n xs) - 1; depth = h.depth }) none
      ∙ ap (λ (n : ℕ). record { points = xs; cursor = n; depth = h.depth }) (omega (arith, long))

  amended_last : (depth : ℕ) (front : List (P × ℕ)) (p q : P) (tag : ℕ) → length front + 1 ≤ depth
      → amended (last_is depth front (p, tag)) q ≡ last_is depth front (q, tag)
  amended_last depth front p q tag few =
      (λ i. ending_with (last_is depth front (p, tag)) (front_is front (p, tag) i) (q, tag_is front (p, tag) i))
      ∙ room_is (last_is depth front (p, tag)) front (q, tag) few

  amended_again : (h : History P) (before : List (P × ℕ)) (p q : P) (tag : ℕ) → 1 ≤ h.depth
      → amended (ending_with h before (p, tag)) q ≡ ending_with h before (q, tag)
  amended_again h before p q tag some =
      ap (λ (z : History P). amended z q) (ending_is h before (p, tag) some)
      ∙ amended_last h.depth (staying h.depth before) p q tag (staying_few h.depth before some)
      ∙ sym (ending_is h before (q, tag) some)

  of_it : (h : History P) (before : List (P × ℕ)) (p : P) (tag : ℕ) → 1 ≤ h.depth → 1 ≤ tag
      → is_of_recording (ending_with h before (p, tag)) tag ≡ true
  of_it h before p tag some numbered =
      ap (λ (z : History P). is_of_recording z tag) (ending_is h before (p, tag) some)
      ∙ (λ i. not (some_number tag numbered i) && (tag_is (staying h.depth before) (p, tag) i == tag))
      ∙ same_number tag

  abbrev chosen : Bool → History P → P → ℕ → History P
  chosen b h p tag = if b then amended h p else edited h p tag

  -- where it goes, whatever point it is: after these points, with this tag
  pub recorded_behind : (h : History P) (tag : ℕ)
      → (before : List (P × ℕ)) × ((p : P) → recorded h p tag ≡ ending_with h before (p, tag))
  recorded_behind h tag = by (is_of_recording h tag) refl
    where
      by : (b : Bool) → is_of_recording h tag ≡ b
          → (before : List (P × ℕ)) × ((p : P) → chosen b h p tag ≡ ending_with h before (p, tag))
      by true e =
          let here : slice_index (tags_of h) h.cursor ≡ tag =
          eqb-true (slice_index (tags_of h) h.cursor) tag
          (both_parts (not (tag == 0)) (slice_index (tags_of h) h.cursor == tag) e) in
          (take h.cursor h.points, λ p. ap (λ (n : ℕ). ending_with h (take h.cursor h.points) (p, n)) here)
      by false e = (kept h, λ p. refl)

  -- it is the last point, and the current one
  pub recorded_last : (h : History P) (p : P) (tag : ℕ) → 1 ≤ h.depth
      → (front : List (P × ℕ)) × (recorded h p tag ≡ last_is h.depth front (p, tag))
  recorded_last h p tag some =
      let at = recorded_behind h tag in (staying h.depth at.0, at.1 p ∙ ending_is h at.0 (p, tag) some)

  -- of two pieces of a recording, one after the other, the second one's point is left
  pub recorded_again : (h : History P) (p q : P) (tag : ℕ) → 1 ≤ h.depth → 1 ≤ tag
      → recorded (recorded h p tag) q tag ≡ recorded h q tag
  recorded_again h p q tag some numbered =
      let at = recorded_behind h tag in
      ap (λ (z : History P). recorded z q tag) (at.1 p)
      ∙ ap (λ (b : Bool). chosen b (ending_with h at.0 (p, tag)) q tag) (of_it h at.0 p tag some numbered)
      ∙ amended_again h at.0 p q tag some
      ∙ sym (at.1 q)

  pub recorded_depth : (h : History P) (p : P) (tag : ℕ) → (recorded h p tag).depth ≡ h.depth
  recorded_depth h p tag = ap (λ (z : History P). z.depth) ((recorded_behind h tag).1 p)

last_point : (front : List (Project × ℕ)) (x : Project × ℕ) → first_point (drop (length front) (front ++ x ∷ [])) ≡ x.0
last_point [] x = refl
last_point (y ∷ ys) x = last_point ys x

-- and it is the current one
pub recorded_current : (h : History Project) (p : Project) (tag : ℕ) → 1 ≤ h.depth
    → first_point (drop (recorded h p tag).cursor (recorded h p tag).points) ≡ p
recorded_current h p tag some =
    let at = recorded_behind h tag in
    ap (λ (z : History Project). first_point (drop z.cursor z.points)) (at.1 p ∙ ending_is h at.0 (p, tag) some)
    ∙ last_point (staying h.depth at.0) (p, tag)

-- ---- projects

pub edited_twice : (id : ℕ) (f g : List Cell → List Cell) (p : Project)
    → edited_at id g (edited_at id f p) ≡ edited_at id (λ cells. g (f cells)) p
edited_twice id f g [] = refl
edited_twice id f g (t ∷ ts) = by (t.id == id) refl (edited_twice id f g ts)
  where
    by : (b : Bool) → (t.id == id) ≡ b → edited_at id g (edited_at id f ts) ≡ edited_at id (λ cells. g (f cells)) ts
        → edited_at id g (edited_at id f (t ∷ ts)) ≡ edited_at id (λ cells. g (f cells)) (t ∷ ts)
    by true e more = rw e (rw e refl)
    by false e more = rw e (rw e (ap (λ (l : Project). t ∷ l) more))

-- the tracks from the edited one on
from_edited : (id : ℕ) (f : List Cell → List Cell) (p : Project)
    → tracks_from id (edited_at id f p) ≡ each_edited (f ∷ []) (tracks_from id p)
from_edited id f [] = refl
from_edited id f (t ∷ ts) = by (t.id == id) refl (from_edited id f ts)
  where
    by : (b : Bool) → (t.id == id) ≡ b → tracks_from id (edited_at id f ts) ≡ each_edited (f ∷ []) (tracks_from id ts)
        → tracks_from id (edited_at id f (t ∷ ts)) ≡ each_edited (f ∷ []) (tracks_from id (t ∷ ts))
    by true e more = rw e (rw e refl)
    by false e more = rw e (rw e more)

first_edited : (f : List Cell → List Cell) (ts : Project) → is_empty ts ≡ false
    → cells_of_first (each_edited (f ∷ []) ts) ≡ f (cells_of_first ts)
first_edited f [] there = let no : ⊥ = cc in absurd no
first_edited f (t ∷ ts) there = refl

none_edited : (f : List Cell → List Cell) (ts : Project) → is_empty (each_edited (f ∷ []) ts) ≡ is_empty ts
none_edited f [] = refl
none_edited f (t ∷ ts) = refl

pub cells_edited : (id : ℕ) (f : List Cell → List Cell) (p : Project) → is_empty (tracks_from id p) ≡ false
    → cells_at id (edited_at id f p) ≡ f (cells_at id p)
cells_edited id f p there = ap cells_of_first (from_edited id f p) ∙ first_edited f (tracks_from id p) there

pub there_edited : (id : ℕ) (f : List Cell → List Cell) (p : Project)
    → is_empty (tracks_from id (edited_at id f p)) ≡ is_empty (tracks_from id p)
there_edited id f p = ap is_empty (from_edited id f p) ∙ none_edited f (tracks_from id p)

-- what two edits make of one track's cells is what they make of the project
pub edited_same : (id : ℕ) (f g : List Cell → List Cell) (p : Project) → f (cells_at id p) ≡ g (cells_at id p)
    → edited_at id f p ≡ edited_at id g p
edited_same id f g [] same = refl
edited_same id f g (t ∷ ts) same = by (t.id == id) same (λ h. edited_same id f g ts h)
  where
    by : (b : Bool) → f (cells_of_first (if b then t ∷ ts else tracks_from id ts))
        ≡ g (cells_of_first (if b then t ∷ ts else tracks_from id ts))
        → (f (cells_at id ts) ≡ g (cells_at id ts) → edited_at id f ts ≡ edited_at id g ts)
        → (if b then with_cells f t ∷ ts else t ∷ edited_at id f ts)
        ≡ (if b then with_cells g t ∷ ts else t ∷ edited_at id g ts)
    by true same more = ap (λ (cells : List Cell). record t { cells = cells } ∷ ts) same
    by false same more = ap (λ (l : Project). t ∷ l) (more same)
