-- Worked examples of the definitions, computed.
use Rattle.std.proofs.Common.{◌≡◌, refl, ℕ, List, [], ◌∷◌, pos, negsuc, Bool, true, false, Some, None}
use Rattle.pcm_base.specs.declared.sound.Cell.TheVariants.{Gap, Sample}
use Rattle.pcm_base.specs.declared.sound.Side.TheVariants.{Both, Left, Right}
use Rattle.pcm_base.specs.Arithmetic.{scaled, clamped, integer_root}
use Rattle.pcm_base.specs.Edits.{deleted, inserted, ramp_of, range_of, changed, gained, split_deleted, silenced}
use Rattle.pcm_base.specs.Edits.{kept_only, pasted_over}
use Rattle.pcm_base.specs.Envelope.{columns_of, rms_of}
use Rattle.pcm_base.specs.{declared.sound.Cell.Cell, declared.sound.Side.Side, Cells.Track, Mix.mix_of}

abbrev five : List Cell
five = Sample (pos 1) ∷ Sample (pos 2) ∷ Sample (pos 3) ∷ Sample (pos 4) ∷ Sample (pos 5) ∷ []

deleted_inside : deleted 1 3 five ≡ Sample (pos 1) ∷ Sample (pos 4) ∷ Sample (pos 5) ∷ []
deleted_inside = refl

-- the gaps that come to stand at the end go
deleted_before_gaps : deleted 2 3 (Sample (pos 1) ∷ Gap ∷ Sample (pos 2) ∷ []) ≡ Sample (pos 1) ∷ []
deleted_before_gaps = refl

inserted_inside : inserted 1 (Sample (pos 9) ∷ []) (Sample (pos 1) ∷ Sample (pos 2) ∷ []) ≡ Sample (pos 1)
    ∷ Sample (pos 9) ∷ Sample (pos 2) ∷ []
inserted_inside = refl

inserted_past_the_end : inserted 7 (Sample (pos 9) ∷ []) five ≡ Sample (pos 1) ∷ Sample (pos 2) ∷ Sample (pos 3)
    ∷ Sample (pos 4) ∷ Sample (pos 5) ∷ Gap ∷ Gap ∷ Sample (pos 9) ∷ []
inserted_past_the_end = refl

halves_go_up : (scaled 32768 (pos 3) ∷ scaled 32768 (negsuc 2) ∷ scaled 32768 (pos 1) ∷ scaled 32768 (negsuc 0) ∷ [])
    ≡ pos 2 ∷ negsuc 0 ∷ pos 1 ∷ pos 0 ∷ []
halves_go_up = refl

greatest_gain : (scaled 1048576 (pos 32767) ∷ scaled 1048576 (negsuc 32767) ∷ []) ≡ pos 524272 ∷ negsuc 524287 ∷ []
greatest_gain = refl

limited : (clamped (pos 524272) ∷ clamped (negsuc 524287) ∷ clamped (pos 32767) ∷ []) ≡ pos 32767 ∷ negsuc 32767
    ∷ pos 32767 ∷ []
limited = refl

roots : (integer_root 0 ∷ integer_root 15 ∷ integer_root 16 ∷ []) ≡ 0 ∷ 3 ∷ 4 ∷ []
unfolding integer_root
roots = refl

-- what is past the greatest sample is limited
ramp_that_ends : ramp_of 3 (pos 32765) (pos 2) ≡ Sample (pos 32765) ∷ Sample (pos 32767) ∷ Sample (pos 32767) ∷ []
ramp_that_ends = refl

-- each edit on what the one before has left
one_after_another : silenced 2 4 (pasted_over 3 (range_of 1 3 five) (kept_only 0 4 (split_deleted 1 3 five)))
    ≡ Sample (pos 1) ∷ Gap ∷ Gap ∷ Sample (pos 0) ∷ Sample (pos 3) ∷ []
one_after_another = refl

-- the gaps at the end of a range are copied, those at a track's end go
copied_past_the_end : range_of 4 7 five ≡ Sample (pos 5) ∷ Gap ∷ Gap ∷ []
copied_past_the_end = refl

nothing_kept_of_a_gap : kept_only 1 2 (Sample (pos 1) ∷ Gap ∷ Gap ∷ Sample (pos 2) ∷ []) ≡ []
nothing_kept_of_a_gap = refl

halved : changed (gained 32768) 0 4 (Sample (pos 3) ∷ Sample (negsuc 2) ∷ Sample (pos 1) ∷ Sample (negsuc 0) ∷ [])
    ≡ Sample (pos 2) ∷ Sample (negsuc 0) ∷ Sample (pos 1) ∷ Sample (pos 0) ∷ []
halved = refl

doubled : changed (gained 131072) 0 3 (Sample (pos 20000) ∷ Gap ∷ Sample (negsuc 19999) ∷ Sample (pos 7) ∷ [])
    ≡ Sample (pos 32767) ∷ Gap ∷ Sample (negsuc 32767) ∷ Sample (pos 7) ∷ []
doubled = refl

-- five cells in two columns: two of them, and then three
uneven_columns : columns_of 0 5 2 five ≡ Some (record { min = pos 1; max = pos 2; squares = 5; count = 2 })
    ∷ Some (record { min = pos 3; max = pos 5; squares = 50; count = 3 }) ∷ []
uneven_columns = refl

column_of_gaps : columns_of 1 3 1 (Sample (pos 1) ∷ Gap ∷ Gap ∷ []) ≡ None ∷ []
column_of_gaps = refl

mean_rounded_down : rms_of (record { min = pos 3; max = pos 5; squares = 50; count = 3 }) ≡ 4
unfolding integer_root
mean_rounded_down = refl

abbrev heard : ℕ → Side → Bool → List Cell → Track
heard gain side mute cells = record { id = 1; gain = gain; side = side; mute = mute; cells = cells }

-- the sum of a side is limited, and not each track; a muted track makes the mix no longer
mixed : mix_of (heard 65536 Both false (Sample (pos 30000) ∷ []) ∷ heard 65536 Left false (Sample (pos 10000)
    ∷ Sample (pos 4) ∷ []) ∷ heard 131072 Right false (Gap ∷ Sample (negsuc 2) ∷ []) ∷ heard 65536 Left false
    (Sample (negsuc 19999) ∷ []) ∷ heard 65536 Both true (Sample (pos 1) ∷ Sample (pos 1) ∷ Sample (pos 1) ∷ []) ∷ [])
    ≡ record { left = pos 20000; right = pos 30000 } ∷ record { left = pos 4; right = negsuc 5 } ∷ []
mixed = refl
