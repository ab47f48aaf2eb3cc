-- Frames as items and as bytes.
use Rattle.std.proofs.Common.{◌≡◌, ℕ, ◌+◌, ◌/◌, ◌-◌, ◌^◌, ◌<◌, ◌≤◌, min, List, [], ◌∷◌, ◌++◌, length, take, drop}
use Rattle.std.proofs.Common.{Option, Some, None, Bool, true, false, refl, sym, ap, ◌∙◌, arith, append_assoc}
use Rattle.std.proofs.lemmas.List.{length-append, length-take-le, length-take, take_all, append-nil, map-append}
use Rattle.std.proofs.lemmas.Grind.{flat_map-append}
use Rattle.std.proofs.Math.Seq.{take-add, take-append_seam, drop-append_seam}
use Rattle.pcm_base.specs.Recordings.{frame_bytes, sample_bytes}
use Rattle.pcm_base.specs.{declared.sound.Frame.Frame, declared.refusal.Refusal.Refusal, Causes.Rose}
use Rattle.edit_ports.specs.Told.{grown}
use Rattle.edit_ports.proofs.ToldLaws.{grown-grown, grown-nil}
use Rattle.play_ring.specs.{Ends.sounds, Ends.end_if, declared.ends.Item.Item, declared.ends.Item.TheVariants.Sound}
use Rattle.play_ring.specs.{declared.ends.Item.TheVariants.End}
use Rattle.player_threads.specs.{Filled.Gave, Filled.Sends, Spoken.SpeakerState, Spoken.Written, Spoken.Writes}
use Rattle.pcm_base.proofs.ListFacts.{length_frames}

-- the items of the first frames, and then of some more
pub sounds-take : (start sent new : List Item) (frames : List Frame) (done more : ℕ)
    → sent ≡ start ++ sounds (take done frames) → new ≡ sent ++ sounds (take more (drop done frames))
    → new ≡ start ++ sounds (take (done + more) frames)
sounds-take start sent new frames done more first next =
    next ∙ ap (λ t. t ++ sounds (take more (drop done frames))) first
    ∙ append_assoc start (sounds (take done frames)) (sounds (take more (drop done frames)))
    ∙ ap (λ t. start ++ t) (sym (map-append Sound (take done frames) (take more (drop done frames)))
    ∙ ap sounds (sym (take-add done more frames)))

-- the frames of a giver, some more
pub Gave-start : (shown : List Frame → Type 0) (sent : List Item) → sent ≡ [] → Gave shown sent 0
Gave-start shown sent none = record { frames = []; sent_is = none; count = refl; told = λ xs h. refl }

-- what one call gave stands after what was given before
told-more : (from asked : ℕ) (xs before more : List Frame) → before ≡ take from xs → more ≡ take asked (drop from xs)
    → before ++ more ≡ take (from + asked) xs
told-more from asked xs before more b m =
    ap (λ t. t ++ more) b ∙ ap (λ t. take from xs ++ t) m ∙ sym (take-add from asked xs)

sent-more : (sent sent' : List Item) (frames more : List Frame) → sent ≡ sounds frames → sent' ≡ sent ++ sounds more
    → sent' ≡ sounds (frames ++ more)
sent-more sent sent' frames more first next =
    next ∙ ap (λ t. t ++ sounds more) first ∙ sym (map-append Sound frames more)

pub Gave-more : (shown : List Frame → Type 0) (sent sent' : List Item) (from count asked : ℕ) (out : List Frame)
    → Gave shown sent from → sent' ≡ sent ++ sounds (take count out)
    → count ≤ length out → ((xs : List Frame) → shown xs → take count out ≡ take asked (drop from xs))
    → count ≡ asked → Gave shown sent' (from + count)
Gave-more shown sent sent' from count asked out g next within given full = record {
  frames = g.frames ++ take count out;
  sent_is = sent-more sent sent' g.frames (take count out) g.sent_is next;
  count = omega (arith, length-append g.frames (take count out), length-take-le count out within, g.count);
  told = λ xs h. told-more from asked xs g.frames (take count out) (g.told xs h) (given xs h)
      ∙ ap (λ n. take (from + n) xs) (sym full);
}

-- fewer than were asked for are the last
pub Sends-end : (shown : List Frame → Type 0) (sent sent' sent'' : List Item)
    (from count asked place : ℕ) (out : List Frame) (refused : Option Refusal) → refused ≡ None → from ≤ 2 ^ 32
    → (0 < count → from + count ≤ 2 ^ 32) → Gave shown sent from → sent' ≡ sent ++ sounds (take count out)
    → count ≤ length out → ((xs : List Frame) → shown xs → take count out ≡ take asked (drop from xs))
    → count < asked → sent'' ≡ sent' ++ End ∷ [] → Sends shown sent'' refused place
Sends-end shown sent sent' sent'' from count asked place out refused none low high g next within given short end =
    let len : length (g.frames ++ take count out) ≡ from + count =
    omega (arith, length-append g.frames (take count out), length-take-le count out within, g.count) in
    let whole : (xs : List Frame) → shown xs → g.frames ++ take count out ≡ xs = λ xs h.
    let e = told-more from asked xs g.frames (take count out) (g.told xs h) (given xs h) in
    let fits : length xs ≤ from + asked =
    omega (arith, len, short, ap length e, length-take (from + asked) xs) in
    e ∙ take_all (from + asked) xs fits in
    record {
      frames = g.frames ++ take count out;
      sent_is = end ∙ ap (λ t. t ++ End ∷ []) (sent-more sent sent' g.frames (take count out) g.sent_is next);
      told = λ xs h. whole xs h
          ∙ sym (take_all (length (g.frames ++ take count out)) xs (omega (arith, ap length (whole xs h))));
      small = grind arith;
      whole = λ _. whole;
      given = λ why some. cc (none, some);
    }

-- a refusal ends the frames
pub Sends-refused : (shown : List Frame → Type 0) (sent sent' : List Item) (from : ℕ) (refused : Option Refusal)
    (reason : Refusal) → refused ≡ Some reason → from ≤ 2 ^ 32 → Gave shown sent from → sent' ≡ sent ++ End ∷ []
    → Sends shown sent' refused from
Sends-refused shown sent sent' from refused reason some low g end = record {
  frames = g.frames;
  sent_is = end ∙ ap (λ t. t ++ End ∷ []) g.sent_is;
  told = λ xs h. g.told xs h ∙ ap (λ n. take n xs) (sym g.count);
  small = omega (arith, low, g.count);
  whole = λ none. cc (none, some);
  given = λ why is. g.count;
}

pub Writes-start : (old : SpeakerState) → Writes old old record { frames = 0; fault = false } []
Writes-start old = record {
  bytes = 0;
  within = omega arith;
  written = sym (grown-nil old.written);
  count_is = refl;
  all = λ h. (refl, refl);
  cause = λ h. cc;
}

-- bytes of some more frames were written
pub Writes-more : (start mid new : SpeakerState) (told told' : Written) (n : ℕ) (done frames : List Frame)
    → told.fault ≡ false → Writes start mid told done
    → n ≤ length (frame_bytes frames) → new.written ≡ grown mid.written (take n (frame_bytes frames))
    → (told'.fault ≡ false → (n ≡ length (frame_bytes frames)) × (new.fault_count ≡ mid.fault_count))
    → (told'.fault ≡ true → Rose mid.fault_count new.fault_count)
    → told'.frames ≡ min (told.frames + n / 4) (2 ^ 64 - 1) → Writes start new told' (done ++ frames)
Writes-more start mid new told told' n done frames fine w within written all cause counted =
    let a = w.all fine in
    let whole : take w.bytes (frame_bytes done) ≡ frame_bytes done =
    take_all w.bytes (frame_bytes done) (omega (arith, a.0)) in
    let both : frame_bytes (done ++ frames) ≡ frame_bytes done ++ frame_bytes frames =
    flat_map-append (λ (f : Frame). sample_bytes f.left ++ sample_bytes f.right) done frames in
    let front : take (length (frame_bytes done) + n) (frame_bytes done ++ frame_bytes frames) ≡ frame_bytes done
    ++ take n (frame_bytes frames) = take-add (length (frame_bytes done)) n (frame_bytes done ++ frame_bytes frames)
    ∙ rw (
      take-append_seam (frame_bytes done) (frame_bytes frames),
      drop-append_seam (frame_bytes done) (frame_bytes frames),
    ) refl in
    record {
      bytes = length (frame_bytes done) + n;
      within = omega (arith, ap length both, length-append (frame_bytes done) (frame_bytes frames), within);
      written = written ∙ ap (λ o. grown o (take n (frame_bytes frames))) (w.written ∙ ap (grown start.written) whole)
          ∙ grown-grown start.written (frame_bytes done) (take n (frame_bytes frames))
          ∙ ap (grown start.written) (sym (ap (take (length (frame_bytes done) + n)) both ∙ front));
      count_is = omega (arith, counted, w.count_is, a.0, length_frames done);
      all = λ h. (
        omega (arith, (all h).0, ap length both, length-append (frame_bytes done) (frame_bytes frames)),
        (all h).1 ∙ a.1,
      );
      cause = λ h. rw (← a.1) (cause h);
    }

-- frames that were received, some more, and the end mark after them
pub received-more : (received received' : List Item) (done more : List Frame) (ended : Bool) → received ≡ sounds done
    → received' ≡ received ++ sounds more ++ end_if ended → received' ≡ sounds (done ++ more) ++ end_if ended
received-more received received' done more ended first next =
    next ∙ ap (λ t. t ++ sounds more ++ end_if ended) first
    ∙ ap (λ t. t ++ end_if ended) (sym (map-append Sound done more))

pub received-last : (received' : List Item) (done : List Frame) (ended : Bool) → ended ≡ true
    → received' ≡ sounds done ++ end_if ended → received' ≡ sounds done ++ End ∷ []
received-last received' done ended last is = is ∙ ap (λ b. sounds done ++ end_if b) last

pub received-open : (received' : List Item) (done : List Frame) (ended : Bool) → ended ≡ false
    → received' ≡ sounds done ++ end_if ended → received' ≡ sounds done
received-open received' done ended more is = is ∙ ap (λ b. sounds done ++ end_if b) more ∙ append-nil (sounds done)
