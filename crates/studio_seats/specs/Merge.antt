-- One list of deeds, by their makers.
use Rattle.std.specs.Prelude.{◌≡◌, ℕ, ◌+◌, ◌<◌, ◌==◌, ◌&&◌, if◌then◌else◌, ℤ, Bool, true, false, List, [], ◌∷◌, ◌++◌}
use Rattle.std.specs.Prelude.{length, take}
use Rattle.std.specs.List.{zip}
use Rattle.pin_turn.specs.{Counts.Each, Counts.times, Counts.once_below, Rule.ByOthers}
use Rattle.pcm_base.specs.{Arithmetic.counted_from, declared.command.Call.Call}
use Rattle.studio_seats.specs.Deeds.{actor_of, is_commit, made, number_after, raised_by}
use Rattle.studio_seats.specs.{declared.deed.Deed.Deed, Pieces.pieces_by}
use Rattle.pcm_base.specs.declared.command.Call.TheVariants as call

abbrev pub by_seat : ℕ → Deed → Bool
by_seat seat e = seat == e.actor

abbrev pub any_seat : Deed → Bool
any_seat e = true

-- the numbers of this many commits after this one, where they are of a kind
abbrev pub numbers_if : Bool → ℕ → ℕ → List ℕ
numbers_if kind count n = if kind then counted_from (n + 1) count else []

-- the commit numbers of the deeds of a kind, by the number before the list
abbrev pub numbers_of : (Deed → Bool) → ℕ → List Deed → List ℕ
numbers_of kind n [] = []
numbers_of kind n (e ∷ es) = numbers_if (kind e) (made e) n ++ numbers_of kind (raised_by e n) es

-- the deeds of a kind, in order
abbrev pub deeds_of : (Deed → Bool) → List Deed → List Deed
deeds_of kind [] = []
deeds_of kind (e ∷ es) = (if kind e then e ∷ [] else []) ++ deeds_of kind es

-- each number is above the one before, and the first above n
abbrev pub Rises : ℕ → List ℕ → Type 0
Rises n [] = Unit {0}
Rises n (x ∷ xs) = (n < x) × Rises x xs

abbrev pub one_if : Bool → ℕ
one_if b = if b then 1 else 0

-- each commit is of exactly one of two kinds
abbrev pub SplitsIn : (Deed → Bool) → (Deed → Bool) → List Deed → Type 0
SplitsIn one two es = Each (λ e. is_commit e ≡ true → one_if (one e) + one_if (two e) ≡ 1) es

-- the numbers of two seats
pub record TwoSeats : Type 0 where
  -- the first, by which the script is carried out
  pub script : ℕ
  -- the one that takes the pieces of a recording
  pub recorder : ℕ

-- commit numbers, by who made the commits
pub record Commits : Type 0 where
  -- what the first seat did before there was another
  pub opening : List ℕ
  -- the script
  pub script : List ℕ
  -- the pieces of the recording
  pub pieces : List ℕ

-- The list that all seats made together, by the number before it. The first seat did some things alone, of which the
-- last commit is the recording's own. Then the script, by the first seat, and the recorder, by another, made all the
-- commits.
pub record Merged (first : ℕ) (log : List Deed) (seats : TwoSeats) (commits : Commits) : Type 0 where
  pub opening : List Deed
  pub rest : List Deed
  pub split : log ≡ opening ++ rest
  pub kinds : SplitsIn (by_seat seats.script) (by_seat seats.recorder) rest
  pub opening_is : commits.opening ≡ numbers_of any_seat first opening
  pub script_is : commits.script ≡ numbers_of (by_seat seats.script) (number_after first opening) rest
  pub pieces_is : commits.pieces ≡ numbers_of (by_seat seats.recorder) (number_after first opening) rest

-- the numbers are together all from above the first to the last, each once, and each list rises
pub record Numbers (first last : ℕ) (commits : Commits) : Type 0 where
  pub each : (k : ℕ) → once_below k (first + 1)
      + (times k commits.opening + times k commits.script + times k commits.pieces) ≡ once_below k (last + 1)
  pub opening_rises : Rises first commits.opening
  pub script_rises : Rises first commits.script
  pub pieces_rise : Rises first commits.pieces

abbrev pub MergedNumbers : Type 0
MergedNumbers = (first : ℕ) (log : List Deed) (seats : TwoSeats) (commits : Commits) → Merged first log seats commits
    → Numbers first (number_after first log) commits

abbrev pub is_piece : ℕ → ℕ → Call → Bool
is_piece to by (call.Line c) = false
is_piece to by (call.Piece track tag samples) = (to == track) && (by == tag)
is_piece to by call.Pin = false
is_piece to by (call.PinLen pin) = false
is_piece to by (call.ReadPin pin from count) = false
is_piece to by (call.LoadPin pin from count) = false
is_piece to by (call.Unpin pin) = false

-- the seat made no commits but pieces of this recording
abbrev pub OnlyPieces : ℕ → ℕ → ℕ → List Deed → Type 0
OnlyPieces to by seat es = Each (λ e. by_seat seat e && is_commit e ≡ true → is_piece to by e.call ≡ true) es

abbrev pub numbers_in : List (List ℤ × ℕ) → List ℕ
numbers_in [] = []
numbers_in (x ∷ xs) = x.1 ∷ numbers_in xs

-- A seat had seen nothing of its own, its pieces were then those of these chunks, and what came after is not by it:
-- then the pieces of the whole list are those of the chunks, the first of the first, and their numbers are its commits.
abbrev pub PieceNumbers : Type 0
PieceNumbers = (to by seat first : ℕ) (before seen more : List Deed) (chunks : List (List ℤ)) (numbers : List ℕ)
    → Each (λ e. e.actor < seat) before
    → pieces_by to by seat first seen ≡ pieces_by to by seat first before ++ zip (take (length numbers) chunks) numbers
    → ByOthers actor_of (seat ∷ []) more
    → OnlyPieces to by seat (seen ++ more)
    → (pieces_by to by seat first (seen ++ more) ≡ zip (take (length numbers) chunks) numbers)
    × (numbers_of (by_seat seat) first (seen ++ more) ≡ numbers_in (zip (take (length numbers) chunks) numbers))

-- a turn of a seat comes after its earlier ones
abbrev pub OwnOrder : Type 0
OwnOrder = (seat : ℕ) (seen between : List Deed) (e : Deed) → e.actor ≡ seat → ByOthers actor_of (seat ∷ []) between
    → deeds_of (by_seat seat) ((seen ++ between) ++ e ∷ []) ≡ deeds_of (by_seat seat) seen ++ e ∷ []
