-- What was received and what was sent are one recording, or one playback.
use Rattle.std.proofs.Common.{◌≡◌, ℕ, ◌+◌, ◌*◌, ◌/◌, ◌-◌, ◌^◌, ◌<◌, ◌≤◌, zero, suc, ℤ, List, [], ◌∷◌, ◌++◌, length}
use Rattle.std.proofs.Common.{drop, refl, sym, ap, ◌∙◌, arith, append_assoc}
use Rattle.std.proofs.lemmas.List.{length-append, length-take, length-drop}
use Rattle.pcm_base.specs.Recordings.{samples_of_bytes, parts_of, chunks_of, numbered_part, numbered, recording}
use Rattle.pcm_base.specs.{Parts.Part, declared.sound.Frame.Frame}
use Rattle.play_ring.specs.{Ends.sounds, declared.ends.Item.Item, declared.ends.Item.TheVariants.End}
use Rattle.player_threads.specs.Spoken.{SpeakerState, Writes, Written}
use Rattle.pcm_base.proofs.ListFacts.{length_frames}

-- each part has an element
abbrev pub NonEmpty : {A : Type 0} → List (List A) → Type 0
NonEmpty [] = Unit {0}
NonEmpty (x ∷ xs) = (0 < length x) × NonEmpty xs

pub parts-nonempty : {A : Type 0} (size n : ℕ) (xs : List A) → 0 < size → n * size < length xs + size
    → NonEmpty (parts_of size n xs)
parts-nonempty size zero xs wide h = tt
parts-nonempty size (suc n) xs wide h =
    let some : 0 < length xs = grind arith in (
      omega (arith, length-take size xs),
      parts-nonempty size n (drop size xs) wide
          (rest n (length xs) (length (drop size xs)) wide h (length-drop size xs)),
    )
  where
    rest : (n len left : ℕ) → 0 < size → suc n * size < len + size → left ≡ len - size → n * size < left + size
    rest n len left wide h e = omega arith

pub chunks-nonempty : (bytes : List ℕ) → NonEmpty (chunks_of bytes)
chunks-nonempty bytes = parts-nonempty 256 ((length (samples_of_bytes bytes) + 255) / 256) (samples_of_bytes bytes)
    (omega arith) (omega arith)

first_samples : List Part → List ℤ
first_samples [] = []
first_samples (p ∷ ps) = p.samples

behind_first : {A : Type 0} → List A → List A
behind_first [] = []
behind_first (x ∷ xs) = xs

-- a recording that begins another one is that one
pub same-recording : (n a b : ℕ) (xs ys : List (List ℤ)) (more : List Part) → NonEmpty ys
    → numbered n xs ++ numbered_part a [] ∷ more ≡ numbered n ys ++ numbered_part b [] ∷ [] → xs ≡ ys
unfolding first_samples behind_first
same-recording n a b [] [] more some e = refl
same-recording n a b [] (y ∷ ys) more some e =
    let silent : [] ≡ y = ap first_samples e in
    absurd (omega (arith, some.0, ap length silent))
same-recording n a b (x ∷ xs) [] more some e =
    absurd (omega (arith, ap length e, length-append (numbered (n + 1) xs) (numbered_part a [] ∷ more)))
same-recording n a b (x ∷ xs) (y ∷ ys) more some e =
    let head : x ≡ y = ap first_samples e in
    let tail : numbered (n + 1) xs ++ numbered_part a [] ∷ more ≡ numbered (n + 1) ys ++ numbered_part b [] ∷ [] =
    ap behind_first e in
    let rest : xs ≡ ys = same-recording (n + 1) a b xs ys more some.1 tail in
    cc

-- the same of frames
pub same-frames : (xs ys : List Frame) (more : List Item) → sounds xs ++ End ∷ more ≡ sounds ys ++ End ∷ [] → xs ≡ ys
same-frames [] [] more e = refl
same-frames [] (y ∷ ys) more e = cc
same-frames (x ∷ xs) [] more e = cc
same-frames (x ∷ xs) (y ∷ ys) more e =
    let head : x ≡ y = cc in
    let tail : sounds xs ++ End ∷ more ≡ sounds ys ++ End ∷ [] = cc in
    let rest : xs ≡ ys = same-frames xs ys more tail in
    cc

-- what was received, up to its end mark, is the recording that was sent
pub recorded-is : (bytes : List ℕ) (chunks : List (List ℤ)) (sent received more : List Part) → sent
    ≡ recording (chunks_of bytes) → received ≡ recording chunks → received ++ more ≡ sent → chunks ≡ chunks_of bytes
recorded-is bytes chunks sent received more sent_is received_is met =
    let e : numbered 0 chunks ++ numbered_part (length chunks) [] ∷ more ≡ numbered 0 (chunks_of bytes)
    ++ numbered_part (length (chunks_of bytes)) [] ∷ [] =
    sym (append_assoc (numbered 0 chunks) (numbered_part (length chunks) [] ∷ []) more)
    ∙ ap (λ r. r ++ more) (sym received_is) ∙ met ∙ sent_is in
    same-recording 0 _ _ chunks (chunks_of bytes) more (chunks-nonempty bytes) e

-- and the same of frames
pub played-is : (frames frames' : List Frame) (sent received more : List Item) → sent ≡ sounds frames ++ End ∷ []
    → received ≡ sounds frames' ++ End ∷ [] → received ++ more ≡ sent → frames' ≡ frames
played-is frames frames' sent received more sent_is received_is met =
    let e : sounds frames' ++ End ∷ more ≡ sounds frames ++ End ∷ [] =
    sym (append_assoc (sounds frames') (End ∷ []) more) ∙ ap (λ r. r ++ more) (sym received_is) ∙ met ∙ sent_is in
    same-frames frames' frames more e

pub Writes-along : {old new : SpeakerState} {told : Written} {frames frames' : List Frame} → frames' ≡ frames
    → Writes old new told frames' → Writes old new told frames
Writes-along same w = rw (← same) w

-- few frames are counted exactly
pub count-exact : {old new : SpeakerState} {told : Written} {frames : List Frame} (w : Writes old new told frames)
    → length frames ≤ 2 ^ 32 → told.frames ≡ w.bytes / 4
count-exact {frames = frames} w small = omega (arith, w.count_is, w.within, length_frames frames, small)
