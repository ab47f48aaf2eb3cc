-- The clip at hand stands in front of those that are left.
use Rattle.record_body.proofs.Common.{◌≡◌, ℕ, List, ◌+◌, ◌-◌, ◌<◌, ◌≤◌, length, None, refl, sym, ap, subst, ◌∙◌, arith}
use Rattle.record_body.proofs.Common.{exit_err, Clip, IsLayout, clip_end, first_failed, block_count, clip_at}
use Rattle.record_body.proofs.Common.{clip_end_at, clip_size, clips_at, clips_size, clip_bytes, clips_tests, all_pass}
use Rattle.record_body.proofs.Steps.{row_next, row_passes, row_stops, row_values}
use Rattle.record_body.proofs.{Reaching.first_within, Reaching.parts_behind, Sizes.size_of_clip}
use Rattle.record_body.proofs.ValidBodies.{same_lens, valid_clips}
use Rattle.record_body.proofs.reading_clips.read_clips.Goals as goal

-- a clip has its bytes among those of the clips that are left
here_within : (bytes : List ℕ) (at n : ℕ) → 0 < n → at + clip_size at bytes ≤ at + clips_size n at bytes
here_within bytes at n some =
    first_within (λ j a. clips_size j a bytes) (clip_size at bytes) at at (λ j. refl) n some

pub read_clip-requires : goal.read_clip-requires
read_clip-requires c = search (arith, c.loop-test.true, c.loop.invariant.1, c.requires.within, here_within)

pub returns-in_err-clip : goal.returns-in_err-clip
returns-in_err-clip c =
    let bytes = c.args.bytes.now in
    let found : Clip → Type 0 = λ x. x ≡ clip_at c.loop.next bytes in
    let all : List Clip → Type 0 = λ x. x ≡ clips_at c.args.count c.args.at bytes in
    rw (exit_err c.from_residual-in_err-clip.result c.from_residual-in_err-clip.ensures.1)
    (row_stops _ _ _ _ _ _ _ _ c.loop.invariant.0 (λ n. refl) found all c.in_err-clip.field-0.0
    (omega (arith, c.loop-test.true)) c.in_err-clip.ensures)

-- the clip has as many bytes as its fields say
size_of : (bytes : List ℕ) (at len : ℕ) (clip : Clip) → len ≡ length (clip_bytes clip) → clip ≡ clip_at at bytes
    → clip_size at bytes ≡ len
size_of bytes at len clip is same =
    sym (is ∙ ap (λ x. length (clip_bytes x)) same ∙ size_of_clip bytes at)

pub overflow_add-next : goal.overflow_add-next
overflow_add-next c =
    let bytes = c.args.bytes.now in
    let within = here_within bytes c.loop.next (c.args.count - c.loop.counter) (omega (arith, c.loop-test.true)) in
    let size = size_of bytes c.loop.next _ c.in_ok-clip.clip c.clip_len.ensures c.in_ok-clip.ensures.1 in
    omega (arith, size, within, c.loop.invariant.1, c.requires.within)

pub loop-preserved : goal.loop-preserved
loop-preserved c =
    let bytes = c.args.bytes.now in
    let at = c.loop.next in
    let some : 0 < c.args.count - c.loop.counter = omega (arith, c.loop-test.true) in
    let less : c.args.count - (c.loop.counter + 1) ≡ c.args.count - c.loop.counter - 1 = omega arith in
    let ends : at + clip_size at bytes ≡ at + c.clip_len.result =
    ap (λ n. at + n) (size_of bytes at _ c.in_ok-clip.clip c.clip_len.ensures c.in_ok-clip.ensures.1) in
    let from : clip_end_at at bytes + 1 ≡ c.in_ok-clip.clip.start + c.len.result + 1 = omega (
      arith,
      same_lens (block_count at bytes) (at + 12) bytes,
      c.len.ensures.value,
      ap clip_end c.in_ok-clip.ensures.1,
    ) in (
      row_next _ _ _ _ _ _ _ _ c.loop.invariant.0 (λ n. refl) (λ n. refl) _ _ _ _ _ some less c.in_ok-clip.ensures.0
          (sym c.in_ok-clip.ensures.1) from ends c.in_ok-push.ensures.items,
      parts_behind (λ j a. clips_size j a bytes) (clip_size at bytes) at _ (λ j. refl) _ _ some less ends
          ∙ c.loop.invariant.1,
    )

pub from_clips-requires : goal.from_clips-requires
from_clips-requires c =
    let bytes = c.args.bytes.now in
    let none : c.args.count - c.loop.counter ≡ 0 = omega (arith, c.loop-test.false) in
    let tests = clips_tests c.args.limits c.args.count 0 c.args.at bytes in
    let pass : first_failed tests ≡ None = row_passes _ _ _ _ _ _ _ _ none refl c.loop.invariant.0 in
    let valid = valid_clips c.args.limits c.args.count 0 0 c.args.at bytes (omega arith) (all_pass tests pass) in
    subst IsLayout (sym (row_values _ _ _ _ _ _ _ _ none refl c.loop.invariant.0))
    (record { apart = valid.0; few = valid.1 })

pub returns : goal.returns
returns c =
    let none : c.args.count - c.loop.counter ≡ 0 = omega (arith, c.loop-test.false) in (
      row_passes _ _ _ _ _ _ _ _ none refl c.loop.invariant.0,
      c.in_ok-from_clips.ensures ∙ row_values _ _ _ _ _ _ _ _ none refl c.loop.invariant.0,
    )
