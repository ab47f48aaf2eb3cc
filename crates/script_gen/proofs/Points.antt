-- The last point of a history.
use Rattle.std.proofs.Common.{◌≡◌, ℕ, ◌+◌, ◌-◌, ◌≤◌, ◌<◌, Bool, true, false, List, [], ◌∷◌, ◌++◌, length, drop, ap, ◌∙◌}
use Rattle.std.proofs.lemmas.List.{drop-drop, length-drop, length_push, take_all}
use Rattle.std.proofs.{Common.arith, Math.Seq.drop-append_seam}
use Rattle.pcm_base.specs.History.{History, at_cursor, edited, kept, newest}
use Rattle.pcm_base.specs.{Cells.Project, State.State, State.current, State.first_point}

abbrev pub last_point : List (Project × ℕ) → Project
last_point points = first_point (drop (length points - 1) points)

abbrev pub last_project : History Project → Project
last_project h = last_point h.points

-- how far the cursor stands before the last point
abbrev pub steps_back : Bool → ℕ
steps_back true = 1
steps_back false = 0

-- The cursor stands at the last point, or one before it where that was undone. There is a point to undo.
pub record IsLast (undone : Bool) (h : History Project) : Type 0 where
  pub two : 2 ≤ length h.points
  pub room : 2 ≤ h.depth
  pub cursor : h.cursor + 1 + steps_back undone ≡ length h.points

pub current-last : (s : State) → IsLast false s.history → current s ≡ last_project s.history
current-last s h =
    let cursor = h.cursor in
    let e : s.history.cursor ≡ length s.history.points - 1 = omega arith in
    ap (λ (k : ℕ). first_point (drop k s.history.points)) e

last-push : (xs : List (Project × ℕ)) (x : Project × ℕ) → last_point (xs ++ x ∷ []) ≡ x.0
last-push xs x =
    let e : length (xs ++ x ∷ []) - 1 ≡ length xs = omega (arith, length_push xs x) in
    ap (λ (k : ℕ). first_point (drop k (xs ++ x ∷ []))) e ∙ ap first_point (drop-append_seam xs (x ∷ []))

last-drop : (k : ℕ) (xs : List (Project × ℕ)) → k < length xs → last_point (drop k xs) ≡ last_point xs
last-drop k xs h =
    let e : k + (length (drop k xs) - 1) ≡ length xs - 1 = omega (arith, length-drop k xs) in
    ap first_point (drop-drop (length (drop k xs) - 1) k xs) ∙ ap (λ (n : ℕ). first_point (drop n xs)) e

-- an edit at the last point
pub record IsEdited (p : Project) (h : History Project) : Type 0 where
  pub last : IsLast false h
  pub is : last_project h ≡ p

pub edited-last : (h : History Project) (p : Project) → h.cursor + 1 ≡ length h.points → 2 ≤ h.depth →
    IsEdited p (edited h p 0)
edited-last h p end room =
    let xs = kept h ++ (p, 0) ∷ [] in
    let all : kept h ≡ h.points = take_all (h.cursor + 1) h.points (omega arith) in
    let many : length xs ≡ length h.points + 1 =
    length_push (kept h) (p, 0) ∙ ap (λ (ps : List (Project × ℕ)). length ps + 1) all in
    let left : length (newest h.depth xs) ≡ length xs - (length xs - h.depth) =
    length-drop (length xs - h.depth) xs in
    record {
      last = record { two = omega arith; room = room; cursor = omega arith };
      is = last-drop (length xs - h.depth) xs (omega arith) ∙ last-push (kept h) (p, 0);
    }

pub undone-last : (h : History Project) → IsLast false h → IsLast true (at_cursor h (h.cursor - 1))
undone-last h l = record { two = l.two; room = l.room; cursor = omega (arith, l.two, l.cursor) }

pub redone-last : (h : History Project) → IsLast true h → IsLast false (at_cursor h (h.cursor + 1))
redone-last h l = record { two = l.two; room = l.room; cursor = omega (arith, l.cursor) }
