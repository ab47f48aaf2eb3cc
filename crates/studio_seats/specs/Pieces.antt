-- The pieces that a seat added, as the list tells them.
use Rattle.std.specs.Prelude.{ℕ, ◌==◌, ◌&&◌, if◌then◌else◌, ℤ, List, [], ◌∷◌, ◌++◌}
use Rattle.pcm_base.specs.{Recordings.pieces_of, declared.command.Call.Call}
use Rattle.edit_ports.specs.Answers.{numbered_pieces}
use Rattle.studio_seats.specs.{declared.deed.Deed.Deed, Deeds.is_commit, Deeds.raised_by}
use Rattle.pcm_base.specs.declared.command.Call.TheVariants as call

-- the pieces of a recording that a call adds, with their numbers, which go on from this one: it goes to that track, and
-- has that tag
abbrev pub piece_in : ℕ → ℕ → Call → ℕ → List (List ℤ × ℕ)
piece_in to by (call.Line c) n = []
piece_in to by (call.Piece track tag samples) n =
    if (to == track) && (by == tag) then numbered_pieces n (pieces_of samples) else []
piece_in to by call.Pin n = []
piece_in to by (call.PinLen pin) n = []
piece_in to by (call.ReadPin pin from count) n = []
piece_in to by (call.LoadPin pin from count) n = []
piece_in to by (call.Unpin pin) n = []

-- the pieces of an entry that this seat made, if it was carried out, by the number before it
abbrev pub piece_by : ℕ → ℕ → ℕ → Deed → ℕ → List (List ℤ × ℕ)
piece_by to by seat e n = if (seat == e.actor) && is_commit e then piece_in to by e.call n else []

-- the pieces of a recording that this seat added, each with its commit number, by the number before the list
abbrev pub pieces_by : ℕ → ℕ → ℕ → ℕ → List Deed → List (List ℤ × ℕ)
pieces_by to by seat n [] = []
pieces_by to by seat n (e ∷ es) = piece_by to by seat e n ++ pieces_by to by seat (raised_by e n) es
