-- How many blocks the lines of a script may need, and how long their records may be.
use Rattle.std.proofs.Common.{◌≡◌, ℕ, ◌+◌, ◌-◌, ◌*◌, ◌≤◌, ◌<◌, false, List, [], length, Option, ap, ◌∙◌, arith}
use Rattle.std.proofs.Math.Nat.{div-le_self}
use Rattle.std.specs.{Prelude.◌/◌, Prelude.unwrap_or, Int.div_ceil}
use Rattle.pcm_base.specs.Sizes.{blocks_of_cells, clip_count, project_body_most, sample_count}
use Rattle.pcm_base.specs.{declared.sound.Cell.Cell, declared.command.Command.Command, Cells.Project, Cells.cells_at}
use Rattle.pcm_base.specs.{Counters.EditNeeds, Counters.RecordNeeds, Counters.met_cells, Edits.range_of}
use Rattle.pcm_base.specs.{Outside.Outside, State.State, State.clip_of, State.current, Step.after_line, Studio.Studio}
use Rattle.script_gen.proofs.Editing.{HasTrack, IsAt, copied-cells, current-track}
use Rattle.script_gen.proofs.Samples.{clip_count-full, range-full, sample_count-full}
use Rattle.pcm_base.specs.declared.command.Call.TheVariants as call

-- The blocks of a line on one track with at most 2,000 new samples, or with one clip of at most 500; and the length of
-- a record of one clip with at most 102,000 samples.
pub record IsFew (m blocks len : ℕ) : Type 0 where
  pub clips : ℕ
  pub one : clips ≤ 1
  pub new : ℕ
  pub few : new + 1500 * clips ≤ 2000
  pub blocks_most : blocks ≤ 8 + clips + new / m
  pub all : ℕ
  pub short : all ≤ 102000
  pub record_most : len ≤ 2048 + 24 * (1 + div_ceil all m)

pub few-blocks : (m blocks len : ℕ) → IsFew m blocks len → blocks ≤ 2009
few-blocks m blocks len f = omega (arith, f.few, f.blocks_most, div-le_self f.new m)

-- where a block has at most 512 samples
pub few-512 : (blocks len : ℕ) → IsFew 512 blocks len → (blocks ≤ 11) × (len ≤ 6872)
few-512 blocks len f =
    (omega (arith, f.one, f.few, f.blocks_most), omega (arith, f.short, f.record_most))

pub few-bytes : (m blocks len : ℕ) → IsFew m blocks len → len ≤ 2450104
few-bytes m blocks len f = omega (arith, f.short, f.record_most, div-le_self f.all m)

-- ---- records

project-body : (m len : ℕ) (p : Project) → HasTrack len p → project_body_most m p ≤ 2048 + 24 * (1 + div_ceil len m)
project-body m len p t =
    let clips = clip_count-full len t.cells t.full in
    let samples : sample_count t.cells + 0 ≡ len = omega (arith, sample_count-full len t.cells t.full) in
    let told : project_body_most m p ≡ 2048 + 24 * (clip_count t.cells + 0 + div_ceil len m) =
    ap (project_body_most m) t.is ∙ ap (λ (n : ℕ). 2048 + 24 * (clip_count t.cells + 0 + div_ceil n m)) samples in
    omega arith

pub track-body : (m len copied : ℕ) (s : State) → IsAt len copied false s →
    project_body_most m (current s) ≤ 2048 + 24 * (1 + div_ceil len m)
track-body m len copied s h = project-body m len (current s) (current-track len copied s h)

-- an edit that leaves such a state
pub edit-few : (clips new len copied most : ℕ) (out : Outside) (t : Studio) (c : Command) (blocks bytes : ℕ) →
    IsAt len copied false (after_line out t.state c) → len ≤ 102000 → clips ≤ 1 → new + 1500 * clips ≤ 2000 →
    most ≤ 8 + clips + new / t.block_size → EditNeeds most out t (call.Line c) blocks bytes →
    IsFew t.block_size blocks bytes
edit-few clips new len copied most out t c blocks bytes h short one few within needs =
    record {
      clips = clips;
      one = one;
      new = new;
      few = few;
      blocks_most = omega (arith, needs.0);
      all = len;
      short = short;
      record_most = omega (arith, needs.1, track-body t.block_size len copied (after_line out t.state c) h);
    }

-- a line without a project in its record
pub record-few : (m exact blocks bytes : ℕ) → exact ≤ 9 → RecordNeeds exact blocks bytes → IsFew m blocks bytes
record-few m exact blocks bytes small needs =
    record {
      clips = 0;
      one = omega arith;
      new = 0;
      few = omega arith;
      blocks_most = omega (arith, needs.0);
      all = 0;
      short = omega arith;
      record_most = omega (arith, needs.1);
    }

-- the blocks of samples that are computed anew
pub met-few : (len copied m from to : ℕ) (s : State) → IsAt len copied false s → from ≤ to → to ≤ len →
    blocks_of_cells m (met_cells s 1 from to) ≤ 8 + 1 + (to - from) / m
met-few len copied m from to s h order within =
    let t = current-track len copied s h in
    let met = range_of from to t.cells in
    let full = range-full len from to t.cells order within t.full in
    let clips = clip_count-full (to - from) met full in
    let told : blocks_of_cells m (met_cells s 1 from to) ≡ 8 + (to - from) / m + clip_count met =
    ap (λ (p : Project). blocks_of_cells m (range_of from to (cells_at 1 p))) t.is
    ∙ ap (λ (n : ℕ). 8 + n / m + clip_count met) (sample_count-full (to - from) met full) in
    omega arith

-- those of the one list of the clipboard
pub one-clip : (len copied : ℕ) (s : State) → IsAt len copied false s → 0 < copied → 8 * length (clip_of s) ≤ 8
one-clip len copied s h some =
    let c = copied-cells len copied s h some in
    let one : length (clip_of s) ≡ 1 = ap (λ (o : Option (List (List Cell))). length (unwrap_or o [])) c.is in
    omega arith
