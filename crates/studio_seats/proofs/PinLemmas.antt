-- What a pin shows stays, as long as nobody lets it go.
use Rattle.studio_seats.proofs.Common.{◌≡◌, ◌⊎◌, inl, inr, ℕ, ◌<◌, Bool, true, false, List, [], ◌∷◌, ◌++◌}
use Rattle.studio_seats.proofs.Common.{take, drop, length, Option, Some, None, if◌then◌else◌, sym, ◌∙◌, ap}
use Rattle.studio_seats.proofs.Common.{arith, Result, Ok, length-map, Reply, Call, Entry, SoundMove, Refusal, Frame}
use Rattle.studio_seats.proofs.Common.{counted_from, Project, LoadedTrack, loaded_of, mix_of, Answers, Run, Step}
use Rattle.studio_seats.proofs.Common.{result_of, State, current, ShowsPin, after_entry, makes_pin}
use Rattle.studio_seats.proofs.Common.{pin_frames, Studio}
use Rattle.pcm_base.specs.{Mix.frame_at, Mix.mix_length}
use Rattle.studio_seats.specs.PinLaws.{PinsStay}
use Rattle.studio_seats.specs.Pins.{StaysHeld}
use Rattle.studio_seats.proofs.PinSteps.{Leads, either_bool, leads_of, made, made_number, next_grows, stays}
use Rattle.studio_seats.proofs.PinSteps.{stays_or_goes}
use Rattle.pcm_base.proofs.ListFacts.{length-counted_from}

-- ---- a run

module _ (p : ℕ) where
  abbrev At : Studio → Option Project
  At t = t.state.pins p

  -- the pin's number stays one that was given out
  low_on : (t u : Studio) (c : Call) (what : Result Reply Refusal) (sound : SoundMove) → Leads t c what sound u
      → p < t.state.next_pin → p < u.state.next_pin
  low_on t u c what sound leads low = rw leads.state (omega (arith, low, next_grows t.rate t.state c what sound))

  abbrev leads : (t u : Studio) (e : Entry) → Step t e.call e.sound e.reply u
      → Leads t e.call (result_of e.reply) e.sound u
  leads t u e step = leads_of t u e.call e.sound (result_of e.reply) step

  -- along a run a pin stays, where nobody lets it go
  run_stays : (t u : Studio) (es : List Entry) → Run t es u → p < t.state.next_pin → StaysHeld p es → At u ≡ At t
  run_stays t u [] run low kept = ap At run
  run_stays t u (e ∷ es) run low kept =
      let first = leads t run.0 e run.1 in
      run_stays run.0 u es run.2 (low_on t run.0 e.call (result_of e.reply) e.sound first low) kept.1
      ∙ ap (λ (z : State). z.pins p) first.state ∙ stays t.rate t.state p e.call (result_of e.reply) e.sound low kept.0

  -- and else it stays or is gone
  run_keeps : (t u : Studio) (es : List Entry) → Run t es u → p < t.state.next_pin → (At u ≡ At t) ⊎ (At u ≡ None)
  run_keeps t u [] run low = inl (ap At run)
  run_keeps t u (e ∷ es) run low =
      let first = leads t run.0 e run.1 in
      let there : At run.0 ≡ (after_entry t.rate t.state e).pins p = ap (λ (z : State). z.pins p) first.state in
      elim (run_keeps run.0 u es run.2 (low_on t run.0 e.call (result_of e.reply) e.sound first low)) [
        | inl later ↦ elim (stays_or_goes t.rate t.state p e.call (result_of e.reply) e.sound low)
            [ inl now ↦ inl (later ∙ there ∙ now) | inr gone ↦ inr (later ∙ there ∙ gone) ]
        | inr gone ↦ inr gone
      ]

  -- the frames of a pin are of the first entry, if that made it, and else of the later ones
  by_first : (t : Studio) (e : Entry) (es : List Entry) (b : Bool) → makes_pin e.call e.reply p ≡ b
      → pin_frames t.rate t.state (e ∷ es) p
      ≡ (if b then Some (mix_of (current t.state)) else pin_frames t.rate (after_entry t.rate t.state e) es p)
  by_first t e es b is = rw is

  -- the frames of a pin that a later entry made
  frames_later : (t mid : Studio) (e : Entry) (es : List Entry) (frames : List Frame)
      → makes_pin e.call e.reply p ≡ false → Leads t e.call (result_of e.reply) e.sound mid
      → pin_frames t.rate t.state (e ∷ es) p ≡ Some frames → pin_frames mid.rate mid.state es p ≡ Some frames
  frames_later t mid e es frames other first is =
      (λ i. pin_frames (first.rate i) (first.state i) es p) ∙ sym (by_first t e es false other) ∙ is

  -- and of one that the first entry made
  frames_now : (t : Studio) (e : Entry) (es : List Entry) (frames : List Frame)
      → makes_pin e.call e.reply p ≡ true
      → pin_frames t.rate t.state (e ∷ es) p ≡ Some frames → frames ≡ mix_of (current t.state)
  frames_now t e es frames makes is = cc (by_first t e es true makes)

  -- a pin that was made in a run shows its frames afterwards, or is gone
  pub run_shows : (t u : Studio) (es : List Entry) (frames : List Frame) → Run t es u
      → pin_frames t.rate t.state es p ≡ Some frames
      → ShowsPin u.state p frames ⊎ (At u ≡ None)
  run_shows t u [] frames run is = absurd cc
  run_shows t u (e ∷ es) frames run is = elim (either_bool (makes_pin e.call e.reply p)) [
    | inl makes ↦
        let there = made t run.0 e.call e.reply e.sound p makes (leads t run.0 e run.1) in
        elim (run_keeps run.0 u es run.2 there.1) [
          | inl still ↦ inl record {
            project = current t.state;
            there = still ∙ there.0;
            shows = frames_now t e es frames makes is;
          }
          | inr gone ↦ inr gone
        ]
    | inr other ↦
        run_shows run.0 u es frames run.2 (frames_later t run.0 e es frames other (leads t run.0 e run.1) is)
  ]

  -- and where nobody lets it go, it shows them
  pub run_holds : (t u : Studio) (es : List Entry) (frames : List Frame) → Run t es u
      → pin_frames t.rate t.state es p ≡ Some frames → StaysHeld p es → ShowsPin u.state p frames
  run_holds t u [] frames run is kept = absurd cc
  run_holds t u (e ∷ es) frames run is kept = elim (either_bool (makes_pin e.call e.reply p)) [
    | inl makes ↦
        let there = made t run.0 e.call e.reply e.sound p makes (leads t run.0 e run.1) in record {
          project = current t.state;
          there = run_stays run.0 u es run.2 there.1 kept.1 ∙ there.0;
          shows = frames_now t e es frames makes is;
        }
    | inr other ↦
        run_holds run.0 u es frames run.2 (frames_later t run.0 e es frames other (leads t run.0 e run.1) is) kept.1
  ]

  -- a number that was given out before is none that is given out later
  low_run : (t u : Studio) (es : List Entry) → Run t es u → p < t.state.next_pin → p < u.state.next_pin
  low_run t u [] run low = rw run low
  low_run t u (e ∷ es) run low =
      low_run run.0 u es run.2 (low_on t run.0 e.call (result_of e.reply) e.sound (leads t run.0 e run.1) low)

  -- a pin that an entry made shows what was current there
  pub frames_at : (t u w : Studio) (es more : List Entry) (e : Entry) → Run t es u
      → Step u e.call e.sound e.reply w → makes_pin e.call e.reply p ≡ true
      → pin_frames t.rate t.state (es ++ e ∷ more) p ≡ Some (mix_of (current u.state))
  frames_at t u w [] more e run step makes =
      by_first t e more true makes ∙ ap (λ (s : Studio). Some (mix_of (current s.state))) (sym run)
  frames_at t u w (x ∷ xs) more e run step makes = elim (either_bool (makes_pin x.call x.reply p)) [
    | inl first ↦
        let there = made t run.0 x.call x.reply x.sound p first (leads t run.0 x run.1) in
        let low : p < u.state.next_pin = low_run run.0 u xs run.2 there.1 in
        let next : p ≡ u.state.next_pin = made_number u w e.call e.reply e.sound p makes (leads u w e step) in
        absurd (omega (arith, low, next))
    | inr other ↦
        let on = leads t run.0 x run.1 in
        by_first t x (xs ++ e ∷ more) false other
        ∙ sym (λ i. pin_frames (on.rate i) (on.state i) (xs ++ e ∷ more) p)
        ∙ frames_at run.0 u w xs more e run.2 step makes
  ]

-- a run keeps the rate
pub run_rate : (t u : Studio) (es : List Entry) → Run t es u → u.rate ≡ t.rate
run_rate t u [] run = ap (λ (z : Studio). z.rate) run
run_rate t u (e ∷ es) run =
    run_rate run.0 u es run.2 ∙ (leads_of t run.0 e.call e.sound (result_of e.reply) run.1).rate

frames_if : (b : Bool) (a x y : Option (List Frame)) (frames : List Frame) → (x ≡ Some frames → y ≡ Some frames)
    → (if b then a else x) ≡ Some frames → (if b then a else y) ≡ Some frames
frames_if true a x y frames f h = h
frames_if false a x y frames f h = f h

-- a longer run tells the same of a pin that was made before
pub frames_on : (rate : ℕ) (s : State) (es more : List Entry) (p : ℕ) (frames : List Frame)
    → pin_frames rate s es p ≡ Some frames → pin_frames rate s (es ++ more) p ≡ Some frames
frames_on rate s [] more p frames h = absurd cc
frames_on rate s (e ∷ es) more p frames h =
    frames_if (makes_pin e.call e.reply p) (Some (mix_of (current s))) (pin_frames rate (after_entry rate s e) es p)
    (pin_frames rate (after_entry rate s e) (es ++ more) p) frames
    (frames_on rate (after_entry rate s e) es more p frames) h

-- what a pin of these frames answers, where it is there
pin_project : (s : State) (p : ℕ) (project : Project) (frames : List Frame) → s.pins p ≡ Some project
    → ShowsPin s p frames ⊎ (s.pins p ≡ None) → frames ≡ mix_of project
pin_project s p project frames is (inl there) =
    let same : there.project ≡ project = cc (there.there, is) in
    there.shows ∙ ap mix_of same
pin_project s p project frames is (inr gone) = absurd (cc (gone, is))

-- a read that was answered gives its frames
pub read_frames : (t u : Studio) (p from count : ℕ) (sound : SoundMove) (got frames : List Frame)
    → Answers t (Call.ReadPin p from count) sound (Ok (Reply.Frames got)) u
    → ShowsPin t.state p frames ⊎ (t.state.pins p ≡ None) → got ≡ take count (drop from frames)
read_frames t u p from count sound got frames h shows =
    let told = h.answers in
    let same : got ≡ take count (drop from (mix_of told.0)) = cc (told.2) in
    rw (pin_project t.state p told.0 frames told.1 shows) same

-- and tracks that were loaded are those of a project with this mix
pub load_tracks : (t u : Studio) (p from count : ℕ) (sound : SoundMove) (tracks : List LoadedTrack)
    (frames : List Frame) → Answers t (Call.LoadPin p from count) sound (Ok (Reply.Loaded tracks)) u
    → ShowsPin t.state p frames ⊎ (t.state.pins p ≡ None)
    → (project : Project) × (frames ≡ mix_of project) × (tracks ≡ loaded_of from count project)
load_tracks t u p from count sound tracks frames h shows =
    let told = h.answers in
    (told.0, pin_project t.state p told.0 frames told.1 shows, cc (told.2))

-- ---- the law

frames_count : (p : Project) → mix_length p ≡ length (mix_of p)
frames_count p = sym (length-map (counted_from 0 (mix_length p)) (frame_at p) ∙ length-counted_from 0 (mix_length p))

-- a length that was answered is that of its frames
pub pin_length : (t u : Studio) (p n : ℕ) (sound : SoundMove) (frames : List Frame)
    → Answers t (Call.PinLen p) sound (Ok (Reply.Length n)) u
    → ShowsPin t.state p frames ⊎ (t.state.pins p ≡ None) → n ≡ length frames
pin_length t u p n sound frames h shows =
    let told = h.answers in
    let same : n ≡ mix_length told.0 = cc (told.2) in
    same ∙ frames_count told.0 ∙ ap length (sym (pin_project t.state p told.0 frames told.1 shows))

pub pins_stay : PinsStay
pins_stay t u es pin frames run is kept =
    let shows = run_holds pin t u es frames run is kept in record {
      shows = shows;
      len = λ sound r after h.
          let told = h.answers in
          rw (pin_project u.state pin told.0 frames told.1 (inl shows))
          (told.2 ∙ ap Reply.Length (frames_count told.0));
      reads = λ from count sound r after h.
          let told = h.answers in rw (pin_project u.state pin told.0 frames told.1 (inl shows)) told.2;
      loads = λ from count sound r after h.
          let told = h.answers in
          (told.0, pin_project u.state pin told.0 frames told.1 (inl shows), told.2);
    }
