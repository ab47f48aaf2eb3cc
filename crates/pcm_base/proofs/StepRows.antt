-- Worked examples of the step, computed.
use Rattle.std.proofs.Common.{◌≡◌, refl, ℕ, List, [], ◌∷◌, ◌++◌, pos, negsuc, true, false, Option, Some, None}
use Rattle.pcm_base.specs.declared.refusal.Refusal.TheVariants.{NoTrack, BadRange, LengthLimit, NothingToUndo}
use Rattle.pcm_base.specs.declared.refusal.Refusal.TheVariants.{NothingToRedo, SpaceSpent, NoFile, BadWav, RateDiffers}
use Rattle.pcm_base.specs.declared.refusal.Refusal.TheVariants.{Stopped, NoPin}
use Rattle.pcm_base.specs.{declared.sound.Cell.TheVariants.Sample, declared.sound.Side.TheVariants.Both}
use Rattle.pcm_base.specs.{declared.sound.Side.TheVariants.Left, declared.command.Command.Command}
use Rattle.pcm_base.specs.{declared.refusal.Refusal.Refusal, declared.wav.WavFault.TheVariants.Truncated}
use Rattle.pcm_base.specs.{declared.wav.WavFault.TheVariants.BadBits, Cells.cells_at, Counters.counter_tests}
use Rattle.pcm_base.specs.{Outside.Outside, Recordings.pieces_in, Refusals.own_tests, Refusals.call_tests, Run.packed}
use Rattle.pcm_base.specs.{Run.refusal_of, State.State, State.new_state, State.current, Step.after_line, Step.after}
use Rattle.pcm_base.specs.{Step.MayReply, Studio.Studio, Studio.fresh}
use Rattle.pcm_base.specs.declared.command.Command.TheVariants as command
use Rattle.pcm_base.specs.declared.command.Call.TheVariants as call
use Rattle.pcm_base.specs.declared.answer.Reply.TheVariants as reply

-- no sound is there
abbrev nowhere : Outside
nowhere = record { rate = 8000; sound = None }

abbrev behind : State → Command → State
behind s c = after_line nowhere s c

abbrev tests : State → Command → Option Refusal
tests s c = own_tests nowhere s c

-- a track of five samples
abbrev with_five : State
with_five = behind (behind (new_state 256) command.Track) (command.Put 1 0 (pos 1 ∷ pos 2 ∷ pos 3 ∷ pos 4 ∷ pos 5 ∷ []))

undone_and_redone : cells_at 1
    (current (behind (behind (behind with_five (command.Delete 1 1 3)) command.Undo) command.Redo)) ≡ Sample (pos 1)
    ∷ Sample (pos 4) ∷ Sample (pos 5) ∷ []
undone_and_redone = refl

redo_goes_with_an_edit : tests (behind (behind with_five command.Undo) command.Track) command.Redo ≡ Some NothingToRedo
redo_goes_with_an_edit = refl

refusals : (tests (new_state 256) command.Undo ∷ tests with_five (command.Delete 1 3 3) ∷ tests with_five
    (command.Delete 9 0 1) ∷ tests with_five (command.Put 1 4294967292 (pos 1 ∷ pos 2 ∷ pos 3 ∷ pos 4 ∷ pos 5 ∷ []))
    ∷ tests with_five (command.Show 1 0 4096) ∷ []) ≡ Some NothingToUndo ∷ Some BadRange ∷ Some (NoTrack 9)
    ∷ Some (LengthLimit 4294967297) ∷ None ∷ []
refusals = refl

spent : counter_tests nowhere
    (record (fresh 8000 4 256) { state = record (new_state 256) { next_track = 4611686018427387904 } })
    (call.Line command.Track) 0 0 ≡ Some (SpaceSpent 4611686018427387904 1)
spent = refl

-- the number of the next layout is the last that can be spent: a cut of two tracks needs two, and a gain none
no_layouts : (counter_tests nowhere (record (fresh 8000 4 256) { next_layout = 4611686018427387903 })
    (call.Line (command.Cut 1 2 0 1)) 0 1 ≡ Some (SpaceSpent 4611686018427387903 2))
    × (counter_tests nowhere (record (fresh 8000 4 256) { next_layout = 4611686018427387904 })
    (call.Line (command.Level 1 0)) 0 1 ≡ None)
no_layouts = (refl, refl)

-- the generation comes before it
no_generation : counter_tests nowhere (record (fresh 8000 4 256) { generation = 4611686018427387904 })
    (call.Line command.Compact) 0 0 ≡ Some (SpaceSpent 4611686018427387904 1)
no_generation = refl

-- the journal goes to the other file and back
to_and_fro : (packed 185 (fresh 8000 4 256)).file ∷ (packed 185 (fresh 8000 4 256)).generation
    ∷ (packed 185 (fresh 8000 4 256)).journal_end ∷ (packed 185 (packed 185 (fresh 8000 4 256))).file ∷ []
    ≡ 1 ∷ 1 ∷ 184 ∷ 0 ∷ []
to_and_fro = refl

-- two tracks, one on the left, muted and at half its gain, after a third was dropped
abbrev with_two : State
with_two = behind (behind (behind (behind (behind (behind with_five command.Track) command.Track) (command.Side 3 Left))
    (command.Mute 3 true)) (command.Level 3 32768)) (command.Drop 2)

told : MayReply nowhere with_two command.Tracks (reply.Tracks (record {
  id = 1;
  gain = 65536;
  side = Both;
  mute = false;
  len = 5;
} ∷ record { id = 3; gain = 32768; side = Left; mute = true; len = 0 } ∷ []))
told = refl

-- the current point stays, and what is older cannot come back
purged_twice : (tests with_two (command.Purge 0) ∷ tests with_two (command.Purge 9) ∷ tests with_two (command.Purge 8)
    ∷ tests (behind with_two (command.Purge 8)) command.Undo ∷ []) ≡ Some BadRange ∷ Some BadRange ∷ None
    ∷ Some NothingToUndo ∷ []
purged_twice = refl

purge_keeps : current (behind with_two (command.Purge 3)) ≡ current with_two
purge_keeps = refl

-- a file of one channel, with the samples 1 and -1, at 8,000 frames in a second; and what stands before its samples
abbrev head_of_file : ℕ → List ℕ
head_of_file bits =
    0x52 ∷ 0x49 ∷ 0x46 ∷ 0x46 ∷ 0x28 ∷ 0 ∷ 0 ∷ 0 ∷ 0x57 ∷ 0x41 ∷ 0x56 ∷ 0x45
    ∷ 0x66 ∷ 0x6D ∷ 0x74 ∷ 0x20 ∷ 0x10 ∷ 0 ∷ 0 ∷ 0
    ∷ 1 ∷ 0 ∷ 1 ∷ 0 ∷ 0x40 ∷ 0x1F ∷ 0 ∷ 0 ∷ 0x80 ∷ 0x3E ∷ 0 ∷ 0 ∷ 2 ∷ 0 ∷ bits ∷ 0
    ∷ 0x64 ∷ 0x61 ∷ 0x74 ∷ 0x61 ∷ 4 ∷ 0 ∷ 0 ∷ 0 ∷ []

abbrev with_file : List ℕ → ℕ → Outside
with_file bytes rate = record { rate = rate; sound = Some bytes }

abbrev whole_file : List ℕ
whole_file = head_of_file 16 ++ 1 ∷ 0 ∷ 0xFF ∷ 0xFF ∷ []

-- one track for each channel, with the next ids
imported : cells_at 1 (current (after_line (with_file whole_file 8000) (new_state 256) (command.Import (97 ∷ []))))
    ≡ Sample (pos 1) ∷ Sample (negsuc 0) ∷ []
imported = refl

not_imported : (own_tests nowhere (new_state 256) (command.Import (97 ∷ []))
    ∷ own_tests (with_file (head_of_file 16 ++ 1 ∷ 0 ∷ 0xFF ∷ []) 8000) (new_state 256) (command.Import (97 ∷ []))
    ∷ own_tests (with_file (head_of_file 24) 8000) (new_state 256) (command.Import (97 ∷ []))
    ∷ own_tests (with_file whole_file 8001) (new_state 256) (command.Import (97 ∷ []))
    ∷ own_tests (with_file whole_file 8000) (new_state 256) (command.Import (97 ∷ [])) ∷ [])
    ≡ Some NoFile ∷ Some (BadWav (Truncated 4 3)) ∷ Some (BadWav (BadBits 24)) ∷ Some (RateDiffers 8000 8001) ∷ None
    ∷ []
not_imported = refl

-- the mix of five samples as a file of 64 bytes
exported : MayReply nowhere with_five (command.Export (98 ∷ [])) (reply.Wrote 64)
exported = refl

-- a pin keeps its project, and its number does not come again
abbrev pinned : State
pinned = behind (after nowhere with_five call.Pin) (command.Drop 1)

pins_kept : (pinned.pins 1 ≡ Some (current with_five)) × (pinned.next_pin ≡ 2)
    × (call_tests nowhere pinned (call.ReadPin 2 0 1) ≡ Some (NoPin 2))
pins_kept = record { 0 = refl; 1 = refl; 2 = refl }

-- pieces of one recording make one point, which an undo takes back whole
abbrev recorded_twice : State
recorded_twice = after nowhere (after nowhere with_five (call.Piece 1 7 (pos 8 ∷ []))) (call.Piece 1 7 (pos 9 ∷ []))

one_point : (recorded_twice.history.cursor ≡ 3) × (recorded_twice.commit ≡ 4)
    × (current (behind recorded_twice command.Undo) ≡ current with_five)
one_point = record { 0 = refl; 1 = refl; 2 = refl }

-- samples that come at once are a piece for each 256, and each is a commit
pieces_counted : (pieces_in 0 ∷ pieces_in 1 ∷ pieces_in 256 ∷ pieces_in 257 ∷ pieces_in 16384 ∷ [])
    ≡ 1 ∷ 1 ∷ 1 ∷ 2 ∷ 64 ∷ []
pieces_counted = refl

-- a studio that was stopped lets pins go, and does nothing else
abbrev stopped : Studio
stopped = record (fresh 8000 4 256) { state = pinned; stopped = Some 3 }

only_unpins : (refusal_of nowhere stopped (call.Unpin 1) 0 0 ∷ refusal_of nowhere stopped (call.Line command.Tracks) 0 0
    ∷ refusal_of nowhere stopped (call.Line (command.Drop 9)) 0 0 ∷ [])
    ≡ None ∷ Some (Stopped 3) ∷ Some (Stopped 3) ∷ []
only_unpins = refl
