-- The frames of a pin, turn by turn.
use Rattle.studio_seats.proofs.Common.{◌≡◌, ℕ, Bool, true, false, List, [], ◌∷◌, ◌++◌, length, take, drop}
use Rattle.studio_seats.proofs.Common.{Option, Some, if◌then◌else◌, refl, sym, ◌∙◌, ap, append_assoc, eq-eqb}
use Rattle.studio_seats.proofs.Common.{Result, Ok, Err, append-nil, IfOk, Frames, Pinned, Pin, ReadPin, State, current}
use Rattle.studio_seats.proofs.Common.{Reply, Entry, Refusal, Said, Frame, mix_of, Ghosts, View, Core, studio_of}
use Rattle.studio_seats.proofs.Common.{silent, as_reply, deed, entries_of, entry_of, Says, Turned, asked, views}
use Rattle.studio_seats.proofs.Common.{after_entry, makes_pin, pin_frames, Deed, Held, origin, IsTrue, VaultGhosts}
use Rattle.studio_seats.proofs.Common.{Studio, inl, inr}
use Rattle.studio_seats.specs.Pins.{is_made}
use Rattle.studio_seats.specs.{Shows.IsMixOf}
use Rattle.studio_seats.proofs.Grown.{all_told, entries_append, leads}
use Rattle.studio_seats.proofs.PinLemmas.{frames_on, read_frames, run_shows}

made_if : (b x y : Bool) → (IsTrue x → IsTrue y) → IsTrue (if b then true else x) → IsTrue (if b then true else y)
made_if true x y f h = h
made_if false x y f h = f h

-- a pin that was made in a run was made in a longer one
pub made_on : (pin : ℕ) (es more : List Entry) → IsTrue (is_made pin es) → IsTrue (is_made pin (es ++ more))
made_on pin [] more h = absurd cc
made_on pin (e ∷ es) more h =
    made_if (makes_pin e.call e.reply pin) (is_made pin es) (is_made pin (es ++ more)) (made_on pin es more) h

some_if : (b x : Bool) (all : List Frame) (o : Option (List Frame))
    → (IsTrue x → (frames : List Frame) × (o ≡ Some frames)) → IsTrue (if b then true else x)
    → (frames : List Frame) × ((if b then Some all else o) ≡ Some frames)
some_if true x all o f h = (all, refl)
some_if false x all o f h = f h

-- a pin that was made shows frames
pub frames_made : (rate : ℕ) (s : State) (pin : ℕ) (es : List Entry) → IsTrue (is_made pin es)
    → (frames : List Frame) × (pin_frames rate s es pin ≡ Some frames)
frames_made rate s pin [] h = absurd cc
frames_made rate s pin (e ∷ es) h =
    some_if (makes_pin e.call e.reply pin) (is_made pin es) (mix_of (current s))
    (pin_frames rate (after_entry rate s e) es pin) (frames_made rate (after_entry rate s e) pin es) h

-- the last entry made the pin
pub made_last : (pin : ℕ) (es : List Entry) (e : Entry) → makes_pin e.call e.reply pin ≡ true
    → IsTrue (is_made pin (es ++ e ∷ []))
made_last pin [] e makes = rw makes refl
made_last pin (x ∷ xs) e makes =
    either_way (makes_pin x.call x.reply pin) (is_made pin (xs ++ e ∷ [])) (made_last pin xs e makes)
  where
    either_way : (b y : Bool) → IsTrue y → IsTrue (if b then true else y)
    either_way true y h = refl
    either_way false y h = h

-- a seat to which a pin was answered has seen how it was made
pub pinned_made : {D V : Type 0} (disk : Ghosts D) (vaults : VaultGhosts V) (start : Core D)
    (v w : View (Held D V disk) Deed) (said : Said ℕ)
    → Says (origin disk vaults start) (asked Pin (as_reply Pinned said.what) silent) said (views v w)
    → IfOk said.what (λ pin. IsTrue (is_made pin (entries_of w.seen)))
pinned_made disk vaults start v w said h = elim h [ inl x ↦ in_turn said.what said.at x | inr x ↦ rw x.what tt ]
  where
    in_turn : (what : Result ℕ Refusal) (at : ℕ)
        → Turned (origin disk vaults start) (asked Pin (as_reply Pinned what) silent) at (views v w)
        → IfOk what (λ pin. IsTrue (is_made pin (entries_of w.seen)))
    in_turn (Ok pin) at x =
        let d : Deed = deed v.number Pin (Ok (Pinned pin)) silent in
        rw (x.view, entries_append (v.seen ++ x.between) (d ∷ []))
        (made_last pin (entries_of (v.seen ++ x.between)) (entry_of d) (eq-eqb pin pin refl))
    in_turn (Err why) at x = tt

module _ {D V : Type 0} (disk : Ghosts D) (vaults : VaultGhosts V) (start : Core D) (pin from : ℕ)
    (old new : List Frame) (v w : View (Held D V disk) Deed) (said : Said ℕ) where
  abbrev t : Studio
  t = studio_of disk start

  abbrev what_of : Result ℕ Refusal → Result Reply Refusal
  what_of what = as_reply (λ (n : ℕ). Frames (take n new)) what

  abbrev Reads : Result ℕ Refusal → ℕ → Type 0
  Reads what at =
      Turned (origin disk vaults start) (asked (ReadPin pin from (length old)) (what_of what) silent) at (views v w)

  abbrev SaysRead : Type 0
  SaysRead =
      Says (origin disk vaults start) (asked (ReadPin pin from (length old)) (what_of said.what) silent) said
      (views v w)

  seen_on : SaysRead → (more : List Entry) × (entries_of w.seen ≡ entries_of v.seen ++ more)
  seen_on (inl x) =
      let d : Deed = deed v.number (ReadPin pin from (length old)) (what_of said.what) silent in (
        entries_of (x.between ++ d ∷ []),
        rw x.view (ap entries_of (append_assoc v.seen x.between (d ∷ []))
            ∙ entries_append v.seen (x.between ++ d ∷ [])),
      )
  seen_on (inr x) = ([], rw x.view (sym (append-nil (entries_of v.seen))))

  -- the seat has still seen how the pin was made
  pub still_made : SaysRead → IsTrue (is_made pin (entries_of v.seen)) → IsTrue (is_made pin (entries_of w.seen))
  still_made h made =
      let more = seen_on h in rw more.1 (made_on pin (entries_of v.seen) more.0 made)

  -- and it shows the same frames
  pub same_frames : SaysRead → (all : List Frame) → IsMixOf (origin disk vaults start) v.seen pin all
      → IsMixOf (origin disk vaults start) w.seen pin all
  same_frames h all shows = let more = seen_on h in record {
    told = shows.told;
    held = shows.held;
    frames = rw more.1 (frames_on t.rate t.state (entries_of v.seen) more.0 pin all shows.frames);
  }

  pub back_frames : SaysRead → IsTrue (is_made pin (entries_of v.seen)) → (all : List Frame)
      → IsMixOf (origin disk vaults start) w.seen pin all → IsMixOf (origin disk vaults start) v.seen pin all
  back_frames h made all shows =
      let more = seen_on h in
      let first = frames_made t.rate t.state pin (entries_of v.seen) made in
      record {
        told = shows.told;
        held = shows.held;
        frames = first.1 ∙ sym (frames_on t.rate t.state (entries_of v.seen) more.0 pin first.0 first.1)
            ∙ (rw more.1 at shows.frames);
      }

  abbrev Given : ℕ → Type 0
  Given count = (all : List Frame) → IsMixOf (origin disk vaults start) v.seen pin all
      → take count new ≡ take (length old) (drop from all)

  gives_at : (what : Result ℕ Refusal) (at : ℕ) → Reads what at → IfOk what Given
  gives_at (Ok count) at h = λ all shows.
      let led = leads (origin disk vaults start) h.before (v.seen ++ h.between) h.stood in
      let told = all_told vaults (v.seen ++ h.between) shows.told in
      let step = (h.does.took (λ some. shows.told)).step (led.held told shows.held) in
      let frames : pin_frames t.rate t.state (entries_of (v.seen ++ h.between)) pin ≡ Some all =
      rw entries_append (frames_on t.rate t.state (entries_of v.seen) (entries_of h.between) pin all shows.frames) in
      read_frames (studio_of disk h.before) (studio_of disk h.after) pin from (length old) silent
      (take count new) all step
      (run_shows pin t (studio_of disk h.before) (entries_of (v.seen ++ h.between)) all
      (led.run told shows.held) frames)
  gives_at (Err why) at h = tt

  -- which are those that it gives
  pub gives : SaysRead → IfOk said.what Given
  gives (inl x) = gives_at said.what said.at x
  gives (inr x) = rw x.what tt
