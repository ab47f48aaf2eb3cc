-- The loads of a pin, one after another, and what is written of each.
use Rattle.sound_bounce.proofs.Common.{◌≡◌, inl, inr, ℕ, ◌+◌, ◌≤◌, List, ◌∷◌, ◌++◌, length, refl, sym, ◌∙◌, ap}
use Rattle.sound_bounce.proofs.Common.{append_assoc, arith, subst, Result, Ok, Err, MatchResult, append-nil}
use Rattle.sound_bounce.proofs.Common.{length-map-range_with_len, IsTrue, Reply, LoadPin, Refusal, Said, Frame, Rose}
use Rattle.sound_bounce.proofs.Common.{frame_at, frame_bytes, Ghosts, MayHaveGrown, loaded_tracks, View, Core, silent}
use Rattle.sound_bounce.proofs.Common.{as_reply, IsThere, Deed, Held, deed, Says, asked, views, by_seat, deeds_of}
use Rattle.sound_bounce.proofs.Common.{origin, own_on, onward_on, onward_self, AreLoads, GrowFails, Grows, IsLoadOf}
use Rattle.sound_bounce.proofs.Common.{LoadsAhead, LoadsDone, frames_by, frames_in, loaded_frames}
use Rattle.sound_bounce.proofs.Common.{moved, own_in, []}
use Rattle.sound_bounce.proofs.Sayings.{bytes_on, bytes_parts, frames_on, mute_refused, was_refused, refused_right}
use Rattle.sound_bounce.proofs.VaultLemmas.{fails_less, fails_on, grown_less, grown_on, grown_so, grows_on, grows_self, keeps_on}
use Rattle.sound_bounce.proofs.TurnLemmas.{answered, refused}
use Rattle.sound_bounce.specs.Bounces.{GrowsBy, LoadsNext, LoadsTo, NextRefused}
use Rattle.mixdown.specs.{declared.loaded.Loaded.Loaded, Loads.tracks_in}
use Rattle.mixdown.proofs.LoadLaws.{full_mix}
use Rattle.editor_views.specs.Loads.{HasLoaded}
use Rattle.studio_seats.specs.Onward.{Onward}
use Rattle.pcm_base.specs.declared.answer.Reply.TheVariants as reply
use Rattle.pcm_base.specs.declared.refusal.Refusal.TheVariants as refusal
use Rattle.edit_ports.specs.declared.vault.Vault as vault

-- ---- one load

module _ {D V : Type 0} (disk : Ghosts D) (vaults : vault.Ghosts V) (start : Core D) (pin batch from : ℕ)
    (v w : View (Held D V disk) Deed) (said : Said ℕ) (l : Loaded)
    (says : Says (origin disk vaults start)
    (asked (LoadPin pin from batch) (as_reply (λ (_ : ℕ). reply.Loaded (tracks_in l)) said.what) silent) said
    (views v w)) where
  abbrev loads : Reply
  loads = reply.Loaded (tracks_in l)

  -- the frames of its answer are those that were mixed
  same_frames : (count : ℕ) → HasLoaded batch count l → frames_by (Ok loads) ≡ loaded_frames l
  same_frames count has = full_mix l has.valid (λ none. has.len ∙ has.silent none)

  -- a load that was answered
  pub load_next : (count : ℕ) → said.what ≡ Ok count → HasLoaded batch count l
      → LoadsNext pin batch from l (views v w)
  load_next count is has =
      let one = answered (IsLoadOf pin) disk vaults start v w (LoadPin pin from batch) (λ _. loads) said
      (from, batch, refl) says count is in
      let frames = same_frames count has in
      let long : length (frames_by (Ok loads)) ≡ l.len =
      ap length frames ∙ length-map-range_with_len (frame_at (loaded_tracks l)) 0 l.len in
      record {
        onward = one.0;
        done = deed v.number (LoadPin pin from batch) (Ok loads) silent;
        own = one.1.own;
        reads = (tracks_in l, refl, refl, ap (λ (n : ℕ). from + n) (sym long));
        frames = frames;
        valid = has.valid;
        fits = subst (λ (n : ℕ). n ≤ batch) (sym has.len) has.few;
        longer = one.1.longer;
        few = one.1.few;
      }

  -- a load that was refused
  pub next_refused : (why : Refusal) → said.what ≡ Err why → NextRefused pin batch from why (views v w)
  next_refused why is =
      let one = refused (IsLoadOf pin) disk vaults start v w (LoadPin pin from batch) (λ _. loads) said
      (from, batch, refl) says why is in
      record { onward = one.0; refused = one.1 }

-- ---- one after another

pub reads_append : (pin batch from mid to : ℕ) (xs ys : List Deed) → AreLoads pin batch from mid xs
    → AreLoads pin batch mid to ys → AreLoads pin batch from to (xs ++ ys)
reads_append pin batch from mid to [] ys h k = subst (λ (n : ℕ). AreLoads pin batch n to ys) h k
reads_append pin batch from mid to (d ∷ xs) ys h k =
    (h.0, h.1, h.2, reads_append pin batch (from + length (frames_by d.what)) mid to xs ys h.3 k)

-- ---- frames that are written one after the other

module _ {V : Type 0} {ghosts : vault.Ghosts V} {name : List ℕ} {a b : V} (xs ys : List Frame) where
  -- the vault did not take the first of two parts
  pub first_fails : GrowFails (moved ghosts name a b) (frame_bytes xs)
      → GrowFails (moved ghosts name a b) (frame_bytes (xs ++ ys))
  first_fails h = subst (λ (z : List ℕ). GrowFails (moved ghosts name a b) z) (sym (bytes_parts xs ys))
      (fails_less (frame_bytes ys) h)

  -- it took the first, and the second or not
  pub both_grow : {A E : Type 0} (c : V) (result : Result A E) → Grows (moved ghosts name a b) (frame_bytes xs)
      → MatchResult result (λ _. Grows (moved ghosts name b c) (frame_bytes ys))
      (λ _. GrowFails (moved ghosts name b c) (frame_bytes ys))
      → MatchResult result (λ _. Grows (moved ghosts name a c) (frame_bytes (xs ++ ys)))
      (λ _. GrowFails (moved ghosts name a c) (frame_bytes (xs ++ ys)))
  both_grow c (Ok x) h k = subst (λ (z : List ℕ). Grows (moved ghosts name a c) z) (sym (bytes_parts xs ys))
      (grows_on h k)
  both_grow c (Err e) h k = subst (λ (z : List ℕ). GrowFails (moved ghosts name a c) z) (sym (bytes_parts xs ys))
      (fails_on h k)

module _ {D V : Type 0} {disk : Ghosts D} {ghosts : vault.Ghosts V} {name : List ℕ} {pin batch : ℕ} where
  -- no load yet, and the sound is there
  pub loads_self : (v : View (Held D V disk) Deed) (a : V)
      → (IsTrue (ghosts.tells a) → IsThere (ghosts.holds a name))
      → LoadsTo pin batch 0 (views v v) (moved ghosts name a a)
  loads_self v a there = record {
    onward = onward_self (IsLoadOf pin) v;
    reads = refl;
    grows = grows_self a there;
  }

  -- the first are in memory
  pub first_ahead : {v w : View (Held D V disk) Deed} (a : V) (l : Loaded)
      → (IsTrue (ghosts.tells a) → IsThere (ghosts.holds a name)) → LoadsNext pin batch 0 l (views v w)
      → LoadsAhead pin batch l.len [] l (views v w) (moved ghosts name a a)
  first_ahead a l there k = record {
    onward = k.onward;
    before = [];
    last = k.done;
    own = k.own;
    reads = let same : 0 + l.len ≡ l.len = omega arith in
        subst (λ (n : ℕ). AreLoads pin batch 0 n (k.done ∷ [])) same k.reads;
    frames = k.frames;
    valid = k.valid;
    fits = k.fits;
    put = [];
    parts = refl;
    grows = grows_self a there;
  }

  -- a turn of it was refused, and the sound holds the first bytes of what was loaded
  refused_end : {u v w : View (Held D V disk) Deed} {a b : V} (len at : ℕ) (why : Refusal) (xs : List Deed)
      (h : Onward (IsLoadOf pin) u v) → own_in (views u v) h ≡ xs → AreLoads pin batch 0 at xs
      → (put rest : List Frame) → frames_in xs ≡ put ++ rest → Grows (moved ghosts name a b) (frame_bytes put)
      → NextRefused pin batch at why (views v w)
      → LoadsDone {A = Unit {0}} pin batch len (Err why) (views u w) (moved ghosts name a b)
  refused_end {u} {v} {w} {a} {b} len at why xs h h_own reads put rest parts grows k =
      let ys : List Deed = own_in (views v w) k.onward in
      let own : deeds_of (by_seat u.number) (h.added ++ k.onward.added) ≡ xs ++ ys =
      own_on (IsLoadOf pin) (IsLoadOf pin) u v w h k.onward ∙ ap (λ (ds : List Deed). ds ++ ys) h_own in
      let bytes : frame_bytes (frames_in (xs ++ ys)) ≡ frame_bytes put ++ frame_bytes rest =
      bytes_on xs ys
      ∙ ap (λ (fs : List Frame). frame_bytes (frames_in xs) ++ frame_bytes fs) (mute_refused k.refused).frames
      ∙ append-nil (frame_bytes (frames_in xs))
      ∙ ap frame_bytes parts ∙ bytes_parts put rest in
      let still : GrowsBy {A = Unit {0}} (Err why) (moved ghosts name a b) (xs ++ ys) = (
        grows.keeps,
        λ told. subst (λ (l : List ℕ). MayHaveGrown l (ghosts.holds a name) (ghosts.holds b name)) (sym bytes)
            (grown_less (ghosts.holds a name) (ghosts.holds b name) (frame_bytes put) (frame_bytes rest)
            (grown_so grows told)),
        inr (grows.faults, λ is. refused_right refusal.VaultFault xs ys (was_refused k.refused is)),
      ) in
      record {
        onward = onward_on (IsLoadOf pin) u v w h k.onward;
        loads = record { place = at; loads = xs; last = ys; are = own; reads = reads; ends = inl k.refused };
        grows = subst (λ (ds : List Deed). GrowsBy {A = Unit {0}} (Err why) (moved ghosts name a b) ds) (sym own)
            still;
      }

  module _ {u v : View (Held D V disk) Deed} {a b : V} where
    -- the first load was refused
    pub loads_refused : {w : View (Held D V disk) Deed} (len : ℕ) {at : ℕ} {why : Refusal}
        → LoadsTo pin batch at (views u v) (moved ghosts name a b) → NextRefused pin batch at why (views v w)
        → LoadsDone {A = Unit {0}} pin batch len (Err why) (views u w) (moved ghosts name a b)
    loads_refused len {at} {why} h k =
        let xs : List Deed = own_in (views u v) h.onward in
        refused_end len at why xs h.onward refl h.reads (frames_in xs) [] (sym (append-nil (frames_in xs))) h.grows k

    module _ {to : ℕ} {held : List Frame} {l : Loaded}
        (h : LoadsAhead pin batch to held l (views u v) (moved ghosts name a b)) where
      abbrev xs : List Deed
      xs = h.before ++ h.last ∷ []

      -- the frames of all loads
      frames_ahead : frames_in xs ≡ h.put ++ (held ++ loaded_frames l)
      frames_ahead = frames_on h.before (h.last ∷ [])
          ∙ (λ i. h.parts i ++ (append-nil (frames_by h.last.what) ∙ h.frames) i)
          ∙ append_assoc h.put held (loaded_frames l)

      -- those that are held were written as well
      more_put : {c : V} (more : List Frame) → Grows (moved ghosts name b c) (frame_bytes more)
          → Grows (moved ghosts name a c) (frame_bytes (h.put ++ more))
      more_put {c} more grows = subst (λ (z : List ℕ). Grows (moved ghosts name a c) z) (sym (bytes_parts h.put more))
          (grows_on h.grows grows)

      -- those that were held are written, and the next are in memory
      pub ahead_on : {w : View (Held D V disk) Deed} {c : V} {next : Loaded}
          → Grows (moved ghosts name b c) (frame_bytes held) → LoadsNext pin batch to next (views v w)
          → LoadsAhead pin batch (to + next.len) (loaded_frames l) next (views u w) (moved ghosts name a c)
      ahead_on {w} {c} {next} grows k = record {
        onward = onward_on (IsLoadOf pin) u v w h.onward k.onward;
        before = xs;
        last = k.done;
        own = own_on (IsLoadOf pin) (IsLoadOf pin) u v w h.onward k.onward ∙ (λ i. h.own i ++ k.own i);
        reads = reads_append pin batch 0 to (to + next.len) xs (k.done ∷ []) h.reads k.reads;
        frames = k.frames;
        valid = k.valid;
        fits = k.fits;
        put = h.put ++ held;
        parts = frames_ahead ∙ sym (append_assoc h.put held (loaded_frames l));
        grows = more_put held grows;
      }

      -- those that were held are written, and the next load was refused
      pub ahead_refused : {w : View (Held D V disk) Deed} {c : V} (len : ℕ) {why : Refusal}
          → Grows (moved ghosts name b c) (frame_bytes held) → NextRefused pin batch to why (views v w)
          → LoadsDone {A = Unit {0}} pin batch len (Err why) (views u w) (moved ghosts name a c)
      ahead_refused len {why} grows k =
          refused_end len to why xs h.onward h.own h.reads (h.put ++ held) (loaded_frames l)
          (frames_ahead ∙ sym (append_assoc h.put held (loaded_frames l))) (more_put held grows) k

      -- the vault did not take these frames, the next that are to be written
      pub ahead_lost : {c : V} (len : ℕ) (more rest : List Frame) → held ++ loaded_frames l ≡ more ++ rest
          → GrowFails (moved ghosts name b c) (frame_bytes more)
          → LoadsDone {A = Unit {0}} pin batch len (Err refusal.VaultFault) (views u v) (moved ghosts name a c)
      ahead_lost {c} len more rest parts fails =
          let front : List ℕ = frame_bytes h.put ++ frame_bytes more in
          let bytes : frame_bytes (frames_in xs) ≡ front ++ frame_bytes rest =
          ap frame_bytes frames_ahead
          ∙ bytes_parts h.put (held ++ loaded_frames l)
          ∙ ap (λ (fs : List Frame). frame_bytes h.put ++ frame_bytes fs) parts
          ∙ ap (λ (z : List ℕ). frame_bytes h.put ++ z) (bytes_parts more rest)
          ∙ sym (append_assoc (frame_bytes h.put) (frame_bytes more) (frame_bytes rest)) in
          let same : ghosts.fault_count b ≡ ghosts.fault_count a = h.grows.faults in
          let lost : GrowsBy {A = Unit {0}} (Err refusal.VaultFault) (moved ghosts name a c) xs = (
            keeps_on h.grows.keeps fails.keeps,
            λ told. subst (λ (z : List ℕ). MayHaveGrown z (ghosts.holds a name) (ghosts.holds c name)) (sym bytes)
                (grown_less (ghosts.holds a name) (ghosts.holds c name) front (frame_bytes rest)
                (grown_on h.grows fails told)),
            inl (
              refl,
              subst (λ (n : ℕ). Rose n (ghosts.fault_count c)) same fails.rose,
              subst (λ (n : ℕ). n ≤ ghosts.fault_count c) same fails.later,
            ),
          ) in
          record {
            onward = h.onward;
            loads = record {
              place = to;
              loads = xs;
              last = [];
              are = h.own ∙ sym (append-nil xs);
              reads = h.reads;
              ends = inr (refl, refl);
            };
            grows = subst
                (λ (ds : List Deed). GrowsBy {A = Unit {0}} (Err refusal.VaultFault) (moved ghosts name a c) ds)
                (sym h.own) lost;
          }

      -- all are loaded, and all were written
      pub ahead_done : {c : V} {len : ℕ} → len ≤ to
          → Grows (moved ghosts name b c) (frame_bytes (held ++ loaded_frames l))
          → LoadsDone {A = Unit {0}} pin batch len (Ok tt) (views u v) (moved ghosts name a c)
      ahead_done {c} le grows = record {
        onward = h.onward;
        loads = record {
          place = to;
          loads = xs;
          last = [];
          are = h.own ∙ sym (append-nil xs);
          reads = h.reads;
          ends = (refl, le);
        };
        grows = subst (λ (ds : List Deed). Grows (moved ghosts name a c) (frame_bytes (frames_in ds))) (sym h.own)
            (subst (λ (fs : List Frame). Grows (moved ghosts name a c) (frame_bytes fs)) (sym frames_ahead)
            (more_put (held ++ loaded_frames l) grows));
      }

  -- of no frames all is done
  pub loads_none : {v : View (Held D V disk) Deed} {a : V} {len : ℕ} → len ≤ 0
      → LoadsTo pin batch 0 (views v v) (moved ghosts name a a)
      → LoadsDone {A = Unit {0}} pin batch len (Ok tt) (views v v) (moved ghosts name a a)
  loads_none le h = record {
    onward = h.onward;
    loads = record {
      place = 0;
      loads = own_in (views _ _) h.onward;
      last = [];
      are = sym (append-nil (own_in (views _ _) h.onward));
      reads = h.reads;
      ends = (refl, le);
    };
    grows = h.grows;
  }
