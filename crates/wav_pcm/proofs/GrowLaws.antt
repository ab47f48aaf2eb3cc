-- Texts that are written a part at a time.
use Rattle.wav_pcm.proofs.Common.{◌≡◌, inl, inr, ℕ, ◌+◌, List, [], ◌++◌, length, take, drop, Option, Some, sym, ap}
use Rattle.wav_pcm.proofs.Common.{subst, ◌∙◌, arith, length-append, take-append_seam, drop-append_seam, flat_map-append}
use Rattle.wav_pcm.proofs.Common.{Frame, bytes_of_frame, frame_bytes, sound_bytes, MayHaveGrown, MayBegin}
use Rattle.std.proofs.Common.{append_assoc}
use Rattle.std.proofs.Math.Seq.{take-add}
use Rattle.std.proofs.{lemmas.List.take-append-drop, lemmas.List.take-append-le}

pub frames_split : (n : ℕ) (fs : List Frame) → frame_bytes fs ≡ frame_bytes (take n fs) ++ frame_bytes (drop n fs)
frames_split n fs =
    ap frame_bytes (sym (take-append-drop n fs)) ∙ flat_map-append bytes_of_frame (take n fs) (drop n fs)

frames_more : (at n : ℕ) (fs : List Frame)
    → frame_bytes (take at fs) ++ frame_bytes (take n (drop at fs)) ≡ frame_bytes (take (at + n) fs)
frames_more at n fs =
    sym (ap frame_bytes (take-add at n fs) ∙ flat_map-append bytes_of_frame (take at fs) (take n (drop at fs)))

pub held_more : (old mid new : Option (List ℕ)) (at n : ℕ) (fs : List Frame)
    → mid ≡ Some (sound_bytes old ++ frame_bytes (take at fs))
    → new ≡ Some (sound_bytes mid ++ frame_bytes (take n (drop at fs)))
    → new ≡ Some (sound_bytes old ++ frame_bytes (take (at + n) fs))
held_more old mid new at n fs before is =
    let done : List ℕ = frame_bytes (take at fs) in
    let more : List ℕ = frame_bytes (take n (drop at fs)) in
    is ∙ ap (λ o. Some (sound_bytes o ++ more)) before
    ∙ ap Some (append_assoc (sound_bytes old) done more ∙ ap (λ xs. sound_bytes old ++ xs) (frames_more at n fs))

pub take_past : (xs ys : List ℕ) (n : ℕ) → take (length xs + n) (xs ++ ys) ≡ xs ++ take n ys
take_past xs ys n = take-add (length xs) n (xs ++ ys) ∙ rw (take-append_seam xs ys, drop-append_seam xs ys)

-- a part more may have come, or a part of it
grown_after : (old mid new : Option (List ℕ)) (done buffer rest : List ℕ) → mid ≡ Some (sound_bytes old ++ done)
    → MayHaveGrown buffer mid new → MayHaveGrown (done ++ (buffer ++ rest)) old new
grown_after old mid new done buffer rest before (inl same) =
    inr (
      length done,
      omega (arith, length-append done (buffer ++ rest)),
      same ∙ before ∙ ap (λ xs. Some (sound_bytes old ++ xs)) (sym (take-append_seam done (buffer ++ rest))),
    )
grown_after old mid new done buffer rest before (inr (n, le, is)) =
    inr (
      length done + n,
      omega (arith, le, length-append done (buffer ++ rest), length-append buffer rest),
      is ∙ ap (λ o. Some (sound_bytes o ++ take n buffer)) before
          ∙ ap Some (append_assoc (sound_bytes old) done (take n buffer))
          ∙ ap (λ xs. Some (sound_bytes old ++ xs))
          (sym (take_past done (buffer ++ rest) n ∙ ap (λ xs. done ++ xs) (take-append-le n buffer rest le))),
    )

pub held_failed : (old mid new : Option (List ℕ)) (at n : ℕ) (fs : List Frame)
    → mid ≡ Some (sound_bytes old ++ frame_bytes (take at fs))
    → MayHaveGrown (frame_bytes (take n (drop at fs))) mid new → MayHaveGrown (frame_bytes fs) old new
held_failed old mid new at n fs before grown =
    let done : List ℕ = frame_bytes (take at fs) in
    let G : List ℕ → Type 0 = λ text. MayHaveGrown text old new in
    let all : done ++ (frame_bytes (take n (drop at fs)) ++ frame_bytes (drop n (drop at fs))) ≡ frame_bytes fs =
    sym (frames_split at fs ∙ ap (λ xs. done ++ xs) (frames_split n (drop at fs))) in
    subst G all (grown_after old mid new done (frame_bytes (take n (drop at fs)))
    (frame_bytes (drop n (drop at fs))) before grown)

-- the front of a text, and what may follow it
pub begun_more : (old mid new : Option (List ℕ)) (head rest : List ℕ) → mid ≡ Some head → MayHaveGrown rest mid new
    → MayBegin (head ++ rest) old new
begun_more old mid new head rest is (inl same) =
    inr (length head, omega (arith, length-append head rest), same ∙ is ∙ ap Some (sym (take-append_seam head rest)))
begun_more old mid new head rest is (inr (n, le, grown)) =
    inr (
      length head + n,
      omega (arith, le, length-append head rest),
      grown ∙ ap (λ o. Some (sound_bytes o ++ take n rest)) is ∙ ap Some (sym (take_past head rest n)),
    )

pub begun_front : (old new : Option (List ℕ)) (head rest : List ℕ) → MayBegin head old new
    → MayBegin (head ++ rest) old new
begun_front old new head rest (inl same) = inl same
begun_front old new head rest (inr (n, le, is)) =
    inr (n, omega (arith, le, length-append head rest), is ∙ ap Some (sym (take-append-le n head rest le)))

pub begun_empty : (old mid new : Option (List ℕ)) (head : List ℕ) → mid ≡ Some [] → MayHaveGrown head mid new
    → MayBegin head old new
begun_empty old mid new head is (inl same) = inr (0, omega arith, same ∙ is)
begun_empty old mid new head is (inr (n, le, grown)) =
    inr (n, le, grown ∙ ap (λ o. Some (sound_bytes o ++ take n head)) is)

pub take_front : (n : ℕ) (xs ys : List ℕ) → length xs ≡ n → take n (xs ++ ys) ≡ xs
take_front n xs ys size = ap (λ (k : ℕ). take k (xs ++ ys)) (sym size) ∙ take-append_seam xs ys
