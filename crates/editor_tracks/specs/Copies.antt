-- What is copied: a run of tracks, and its strips.
use Rattle.std.specs.Prelude.{◌≡◌, ◌⊎◌, ℕ, nat_le, if◌then◌else◌, Option, Some, None, List, [], ◌∷◌, take, Result}
use Rattle.std.specs.Prelude.{MatchResult}
use Rattle.std.specs.List.{flat_map}
use Rattle.pcm_base.specs.{declared.block.BlockRef.BlockRef, declared.refusal.Refusal.Refusal}
use Rattle.pcm_base.specs.{declared.refusal.Refusal.TheVariants.NoMemory}
use Rattle.clip_track.specs.{declared.clips.Clip.Clip, declared.items.Item.Item, Items.strip_blocks}
use Rattle.edit_ops.specs.Runs.{copy_tests, AreCopies}
use Rattle.project_state.specs.declared.track.Track.{Track}
use Rattle.record_body.specs.Saved.{current_tracks}
use Rattle.editor_tracks.specs.declared.run_range.RunRange.{RunRange}
use Rattle.editor_state.specs.Core.{Core}

-- the block, if there is one
abbrev pub blocks_in : Option BlockRef → List BlockRef
blocks_in None = []
blocks_in (Some b) = b ∷ []

-- the blocks of strips
abbrev pub strips_blocks : List (List Item) → List BlockRef
strips_blocks strips = flat_map strip_blocks strips

-- the layouts of the tracks whose ids are this one or greater
abbrev pub layouts_at : ℕ → Track → List (List Clip)
layouts_at id t = if nat_le id t.id then t.layout ∷ [] else []

abbrev pub run_of : ℕ → List Track → List (List Clip)
run_of id ts = flat_map (layouts_at id) ts

-- the strips of a run, or what refuses them
abbrev pub Copies : List (List Clip) → RunRange → Result (List (List Item)) Refusal → Type 0
Copies run range result = MatchResult result
    (λ v. (copy_tests run range.count range.from range.to ≡ None)
    × AreCopies range.from range.to (take range.count run) v)
    (λ why. (copy_tests run range.count range.from range.to ≡ Some why) ⊎ (why ≡ NoMemory))

-- Whatever the disk tells, the strips of the run are in the clipboard, or nothing has changed.
abbrev pub AnswersCopy : {D : Type 0} → Core D → RunRange → Result (Unit {0}) Refusal → Core D → Type 0
AnswersCopy old range result new = MatchResult result
    (λ _. (strips : List (List Item))
    × AreCopies range.from range.to (take range.count (run_of range.track (current_tracks old.history))) strips
    × (new ≡ record old { clipboard = Some strips; uses = new.uses; counts = new.counts }))
    (λ why. new ≡ old)
