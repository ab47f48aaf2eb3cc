-- A track with another one in a window's place is a layout.
use Rattle.edit_ops.proofs.Common.{◌≡◌, ℕ, ◌+◌, ◌-◌, ◌≤◌, inl, inr, List, [], ◌∷◌, ◌++◌, refl, sym, ap}
use Rattle.edit_ops.proofs.Common.{subst, ◌∙◌, arith, BlockRef, Clip, clip_end, end_of}
use Rattle.std.specs.Prelude.{◌⊎◌}
use Rattle.pcm_base.specs.Blocks.{NoneEmpty, blocks_len}
use Rattle.clip_track.specs.Clips.{AreClips, IsLayout}
use Rattle.clip_track.proofs.Layouts.{AreClips-earlier, ends_later}
use Rattle.edit_ops.specs.Windows.{back_of, front_of, middle_of}
use Rattle.edit_ops.specs.Joins.{clip_of, joined_clips, moved}
use Rattle.edit_ops.specs.Windows.{IsWindow, back_clip, front_clip, next_of, track_with, window_blocks}
use Rattle.edit_ops.specs.declared.windows.Window.{Window}
use Rattle.edit_ops.proofs.TouchingClips.{AreLoose, joined_apart, joined_end, loose_then}
use Rattle.edit_ops.proofs.WindowBlocks.{NoneEmpty-parts, apart_append, end_append, end_before_next, len_three}
use Rattle.edit_ops.proofs.WindowBlocks.{moved_apart, moved_end}

-- what is added to the clip up to the window
abbrev pub additions : Window → ℕ → List Clip → List Clip
additions w new small = moved 0 w.from small ++ back_clip w new ∷ []

pub none_empty_parts : (m : ℕ) (t : List Clip) (w : Window) → IsWindow m t w
    → NoneEmpty (front_of w) × NoneEmpty (middle_of w) × NoneEmpty (back_of w)
none_empty_parts m t w h =
    let a = NoneEmpty-parts (front_of w ++ middle_of w) (back_of w) h.none_empty in
    let b = NoneEmpty-parts (front_of w) (middle_of w) a.0 in
    (b.0, b.1, a.1)

moved_small : (w : Window) (small : List Clip) → AreClips 0 small → AreClips w.from (moved 0 w.from small)
moved_small w small h =
    let e : 0 - 0 + w.from ≡ w.from = omega arith in
    let A : ℕ → Type 0 = λ n. AreClips n (moved 0 w.from small) in
    subst A e (moved_apart 0 0 w.from small (omega arith) h)

pub small_end : (w : Window) (small : List Clip) → AreClips 0 small
    → end_of w.from (moved 0 w.from small) ≡ w.from + end_of 0 small
small_end w small h =
    let e : 0 - 0 + w.from ≡ w.from = omega arith in
    sym (ap (λ (n : ℕ). end_of n (moved 0 w.from small)) e) ∙ moved_end 0 0 w.from small (omega arith) h ∙ omega arith

pub additions_loose : (m : ℕ) (t : List Clip) (w : Window) (new : ℕ) (small : List Clip) → IsWindow m t w
    → AreClips 0 small → end_of 0 small ≤ new → AreLoose (clip_end (front_clip w)) (additions w new small)
additions_loose m t w new small h a l =
    let L : ℕ → Type 0 = λ n. AreLoose n (additions w new small) in
    subst L h.from (loose_then w.from w.from (moved 0 w.from small) (back_clip w new) (omega arith)
    (moved_small w small a) (omega (arith, small_end w small a, l)) (none_empty_parts m t w h).2)

pub additions_end : (w : Window) (new : ℕ) (small : List Clip)
    → end_of (clip_end (front_clip w)) (additions w new small) ≡ w.from + new + blocks_len (back_of w)
additions_end w new small = end_append (clip_end (front_clip w)) (moved 0 w.from small) (back_clip w new ∷ [])

pub window_len : (m : ℕ) (t : List Clip) (w : Window) → IsWindow m t w
    → w.start + w.len ≡ w.from + blocks_len (middle_of w) + blocks_len (back_of w)
window_len m t w h = omega (arith, h.len, h.from, len_three (front_of w) (middle_of w) (back_of w))

-- the clips after the window, moved
pub after_apart : (m : ℕ) (t : List Clip) (w : Window) (old new : ℕ) (small : List Clip) → IsWindow m t w
    → old ≡ blocks_len (middle_of w)
    → AreClips (end_of (clip_end (front_clip w)) (additions w new small) + 1)
    (moved (w.from + old) (w.from + new) w.after.now)
after_apart m t w old new small h o =
    let from = w.from + old in
    let to = w.from + new in
    let len = window_len m t w h in
    let e : w.start + w.len + 1 - from + to ≡ end_of (clip_end (front_clip w)) (additions w new small) + 1 =
    omega (arith, len, o, additions_end w new small) in
    let A : ℕ → Type 0 = λ n. AreClips n (moved from to w.after.now) in
    subst A e (moved_apart (w.start + w.len + 1) from to w.after.now (omega (arith, len, o)) h.after)

-- it ends within the track, unless it is a gap after all clips
end_one : (at s : ℕ) (bs : List BlockRef) (es : List Clip)
    → (end_of (s + blocks_len bs) es ≡ end_of at (clip_of s bs ++ es)) ⊎ ((bs ≡ []) × (es ≡ []))
end_one at s [] [] = inr (refl, refl)
end_one at s [] (e ∷ es) = inl refl
end_one at s (b ∷ bs) es = inl refl

pub window_last : (m : ℕ) (t : List Clip) (w : Window) → IsWindow m t w
    → (end_of (w.start + w.len) w.after.now ≡ end_of 0 t) ⊎ ((w.len ≡ 0) × (end_of (w.start + w.len) w.after.now ≡ w.start))
window_last m t w h =
    let at = end_of 0 w.before.now in
    let bs = window_blocks w in
    let long = ap (λ (n : ℕ). end_of (w.start + n) w.after.now) h.len in
    elim (end_one at w.start bs w.after.now) [
      | inl e ↦ inl (long ∙ e ∙ sym (end_append 0 w.before.now (clip_of w.start bs ++ w.after.now)) ∙ sym (ap (end_of 0) h.clips))
      | inr e ↦
          let none : w.len ≡ 0 = h.len ∙ ap blocks_len e.0 in
          inr (none, ap (end_of (w.start + w.len)) e.1 ∙ omega (arith, none))
    ]

pub window_end : (m : ℕ) (t : List Clip) (w : Window) → IsWindow m t w
    → (w.start + w.len ≤ end_of 0 t) ⊎ (w.len ≡ 0)
window_end m t w h = elim (window_last m t w h) [
  | inl e ↦
      inl (omega (arith, ends_later (w.start + w.len) (w.start + w.len + 1) w.after.now (omega arith) h.after, e))
  | inr e ↦ inr e.0
]

pub middle_few : (m : ℕ) (t : List Clip) (w : Window) → IsWindow m t w → blocks_len (middle_of w) ≤ 4294967296
middle_few m t w h =
    let len = window_len m t w h in
    elim (window_end m t w h) [
      | inl e ↦ omega (arith, len, e, h.from, h.layout.few)
      | inr e ↦ omega (arith, len, e, h.from)
    ]

pub back_few : (m : ℕ) (t : List Clip) (w : Window) (old new : ℕ) → IsWindow m t w → old ≡ blocks_len (middle_of w)
    → end_of 0 t - old + new ≤ 4294967296 → w.from + new ≤ 4294967296
    → w.from + new + blocks_len (back_of w) ≤ 4294967296
back_few m t w old new h o few far =
    let len = window_len m t w h in
    elim (window_end m t w h) [
      | inl e ↦ omega (arith, len, e, o, few)
      | inr e ↦ omega (arith, len, e, h.from, far)
    ]

pub layout_around : (m : ℕ) (t : List Clip) (w : Window) (old new : ℕ) (small : List Clip) → IsWindow m t w
    → old ≡ blocks_len (middle_of w) → AreClips 0 small → end_of 0 small ≤ new
    → end_of 0 t - old + new ≤ 4294967296 → w.from + new ≤ 4294967296 → IsLayout (track_with w old new small)
layout_around m t w old new small h o a l few far =
    let from = w.from + old in
    let to = w.from + new in
    let before = w.before.now in
    let front = front_clip w in
    let ds = additions w new small in
    let es = moved from to w.after.now in
    let loose = additions_loose m t w new small h a l in
    let apart = after_apart m t w old new small h o in
    let len = window_len m t w h in
    let later = AreClips-earlier (w.start + w.len) (w.start + w.len + 1) w.after.now (omega arith) h.after in
    let e : w.start + w.len - from + to ≡ end_of (clip_end front) ds = omega (arith, len, o, additions_end w new small) in
    let last : end_of (end_of (clip_end front) ds) es ≡ end_of (w.start + w.len) w.after.now - from + to =
    sym (ap (λ (n : ℕ). end_of n es) e) ∙ moved_end (w.start + w.len) from to w.after.now (omega (arith, len, o)) later in
    let past = ends_later (w.start + w.len) (w.start + w.len) w.after.now (omega arith) later in
    let short : end_of (w.start + w.len) w.after.now - from + to ≤ 4294967296 = elim (window_last m t w h) [
      | inl k ↦ omega (arith, k, past, len, o, few)
      | inr k ↦ omega (arith, k.0, k.1, len, o, far)
    ] in
    record {
      apart = apart_append 0 before (joined_clips front ds ++ es) h.before
          (joined_apart (next_of 0 before) front ds es h.apart (none_empty_parts m t w h).0 loose apart);
      few = omega (
        arith,
        end_append 0 before (joined_clips front ds ++ es),
        joined_end (end_of 0 before) front ds es (omega (arith, end_before_next 0 0 before (omega arith), h.apart)) loose,
        last,
        short,
      );
    }
