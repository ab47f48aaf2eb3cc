-- The bytes that were read are those of the frames.
use Rattle.std.proofs.Common.{◌≡◌, ◌+◌, ◌*◌, ◌≤◌, ℕ, List, ◌++◌, take, drop, arith, length, length-drop, ◌∙◌, ap, refl}
use Rattle.std.proofs.{lemmas.List.take_at, lemmas.List.length-take, lemmas.Grind.common_steps}
use Rattle.disk_model.specs.Disk.{bytes_of}
use Rattle.block_store.proofs.FrameLaws.{frames_taken}
use Rattle.block_store.specs.Reads.{level_place}
use Rattle.block_store.proofs.frames.read_buffer.Goals as goal

-- the front of a buffer, whose first bytes were read
front_read : (bytes new rest : List ℕ) (at m size : ℕ) → (at + m ≤ length bytes) × (new ≡ take m (drop at bytes))
    → m ≡ size → take size (new ++ rest) ≡ take size (drop at bytes)
front_read bytes new rest at m size part e =
    let long : length new ≡ size =
    omega (arith, e, ap length part.1, length-take m (drop at bytes), length-drop at bytes) in
    take_at new rest size long ∙ part.1 ∙ ap (λ (k : ℕ). take k (drop at bytes)) e

pub returns-clause-frames : goal.returns-clause-frames
returns-clause-frames g c = λ told.
    let place : ℕ = level_place c.args.level c.args.block.len + 12 * c.args.from in
    c.take_frames.ensures
    ∙ frames_taken (bytes_of (g.S.Store.reads c.args.store.now c.args.block.id)) _ c.args.level c.args.block.len
    c.args.from place (length c.args.out.now) (12 * length c.args.out.now) refl refl
    (front_read (bytes_of (g.S.Store.reads c.args.store.now c.args.block.id)) c.read_bytes.new.out _ place _
    (12 * length c.args.out.now) (c.in_default.ensures.bytes told) (grind (arith, common_steps)))
