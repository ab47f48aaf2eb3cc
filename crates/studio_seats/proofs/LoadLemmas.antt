-- What is answered of a pin at one of the deeds of a desk.
use Rattle.studio_seats.proofs.Common.{◌≡◌, ◌⊎◌, ℕ, List, ◌∷◌, ◌++◌, length, Some, None, subst, Result, Ok, Reply}
use Rattle.studio_seats.proofs.Common.{Length, Loaded, Call, LoadPin, PinLen, LoadedTrack, Refusal, Frame, Project}
use Rattle.studio_seats.proofs.Common.{loaded_of, mix_of, Answers, Ghosts, Core, IsHeld, studio_of, AllTell, StandsFor}
use Rattle.studio_seats.proofs.Common.{origin, Deed, entries_of, ShowsPin, pin_frames, VaultGhosts, Studio}
use Rattle.studio_seats.proofs.PinLemmas.{load_tracks, pin_length, run_shows}
use Rattle.studio_seats.proofs.{Chains.chain_cut, Grown.all_told, Grown.leads}

-- What a pin of these frames shows at a deed, or that it is gone, and the step that the deed is.
record AtDeed (pin : ℕ) (all : List Frame) (d : Deed) : Type 0 where
  t : Studio
  u : Studio
  step : Answers t d.call d.sound d.what u
  shows : ShowsPin t.state pin all ⊎ (t.state.pins pin ≡ None)

module _ {D V : Type 0} (disk : Ghosts D) (vaults : VaultGhosts V) (start now : Core D) (front back : List Deed)
    (d : Deed) (stands : StandsFor (origin disk vaults start) now (front ++ d ∷ back)) (tell : AllTell vaults)
    (held : IsHeld disk start) (pin : ℕ) (all : List Frame)
    (frames : pin_frames (studio_of disk start).rate (studio_of disk start).state (entries_of front) pin ≡ Some all)
  where
    at_deed : AtDeed pin all d
    at_deed =
        let cut = chain_cut disk vaults start front (d ∷ back) now stands.chain in
        let stood : StandsFor (origin disk vaults start) cut.0 front =
        record { began = stands.began; chain = cut.1 } in
        let led = leads (origin disk vaults start) cut.0 front stood in
        let told = all_told vaults front tell in
        record {
          t = studio_of disk cut.0;
          u = studio_of disk cut.2.0;
          step = (cut.2.1.took (λ some. tell)).step (led.held told held);
          shows = run_shows pin (studio_of disk start) (studio_of disk cut.0) (entries_of front) all
              (led.run told held) frames;
        }

    -- tracks that were loaded
    pub loads_at : (from most : ℕ) (tracks : List LoadedTrack) → d.call ≡ LoadPin pin from most
        → d.what ≡ Ok (Loaded tracks)
        → (project : Project) × (all ≡ mix_of project) × (tracks ≡ loaded_of from most project)
    loads_at from most tracks call_is what_is =
        let at = at_deed in
        load_tracks at.t at.u pin from most d.sound tracks all (subst (λ (z : Call × Result Reply Refusal).
        Answers at.t z.0 d.sound z.1 at.u) (λ i. (call_is i, what_is i)) at.step) at.shows

    -- a length that was answered
    pub length_at : (n : ℕ) → d.call ≡ PinLen pin → d.what ≡ Ok (Length n) → n ≡ length all
    length_at n call_is what_is =
        let at = at_deed in
        pin_length at.t at.u pin n d.sound all (subst (λ (z : Call × Result Reply Refusal).
        Answers at.t z.0 d.sound z.1 at.u) (λ i. (call_is i, what_is i)) at.step) at.shows
