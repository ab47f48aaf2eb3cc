-- What the deeds of a bounce say, where the disk held the studio.
use Rattle.sound_bounce.proofs.Common.{◌≡◌, inl, inr, ℕ, ◌+◌, ◌-◌, Bool, true, false, List, ◌∷◌, ◌++◌, length, take}
use Rattle.sound_bounce.proofs.Common.{drop, Some, refl, sym, ◌∙◌, ap, subst, append_assoc, arith, Result, Ok, Err}
use Rattle.sound_bounce.proofs.Common.{append-nil, length-take, take_all, take-add, take-append_seam, IsTrue, OnOk}
use Rattle.sound_bounce.proofs.Common.{OnErr, Pin, frame_at, Refusal, Frame, frame_bytes, Ghosts, Core, wav_head, Deed}
use Rattle.sound_bounce.proofs.Common.{by_seat, deeds_of, origin, AreLoads, BounceDeeds, LoadsOf, ReadsPin, Unasked}
use Rattle.sound_bounce.proofs.Common.{frames_by, frames_in, header_by, length_by, length_in, may_let_go, text_by, []}
use Rattle.sound_bounce.proofs.Sayings.{frames_all, header_all, length_all, length_back, length_front, mute_gone}
use Rattle.sound_bounce.proofs.Sayings.{mute_pinned, mute_refused, text_back, text_front}
use Rattle.std.proofs.{Common.min, Common.if◌then◌else◌, Common.map, Common.eq-eqb, lemmas.List.take_min}
use Rattle.pcm_base.specs.{Mix.loaded_of, Mix.mix_length, Mix.mix_of, declared.entry.Entry.Entry}
use Rattle.pcm_base.specs.{declared.lists.LoadedTrack.LoadedTrack, Cells.Project, Wave.wav_text}
use Rattle.editor_state.specs.{Studios.IsHeld, Studios.studio_of, Applied.reply_of}
use Rattle.studio_seats.specs.Pins.{is_made, makes_pin, pin_frames}
use Rattle.studio_seats.specs.{Deeds.entries_of, Deeds.entry_of, Stands.AllTell, Stands.StandsFor, Shows.IsMixOf}
use Rattle.studio_seats.proofs.FrameLemmas.{frames_made, made_last}
use Rattle.studio_seats.proofs.{LoadLemmas.length_at, LoadLemmas.loads_at, Grown.entries_append, PinLemmas.frames_on}
use Rattle.sound_bounce.specs.Bounces.{AfterPin, BouncesTell, IsOwnPin, SaysWhole}
use Rattle.mixdown.specs.Loads.{heard_track}
use Rattle.mixdown.proofs.LoadedLaws.{loaded_mix}
use Rattle.mix_reader.proofs.CountLaws.{made_from}
use Rattle.wav_pcm.proofs.GrowLaws.{frames_split}
use Rattle.pcm_base.specs.declared.answer.Reply.TheVariants as reply
use Rattle.pcm_base.specs.Studio as model
use Rattle.edit_ports.specs.declared.vault.Vault as vault

-- ---- the first deed of a kind

-- a list with a deed of a kind: those before the first, that one, and those after it
pub record Cut (kind : Deed → Bool) (rest : List Deed) (d : Deed) (ds : List Deed) : Type 0 where
  pub front : List Deed
  pub back : List Deed
  pub are : rest ≡ front ++ d ∷ back
  pub none : deeds_of kind front ≡ []
  pub later : deeds_of kind back ≡ ds

cut_by : (kind : Deed → Bool) (e d : Deed) (es ds : List Deed) (b : Bool) → kind e ≡ b
    → (deeds_of kind es ≡ d ∷ ds → Cut kind es d ds) → (if b then e ∷ [] else []) ++ deeds_of kind es ≡ d ∷ ds
    → Cut kind (e ∷ es) d ds
cut_by kind e d es ds true is more own =
    let both : e ∷ deeds_of kind es ≡ d ∷ ds = own in
    record { front = []; back = es; are = cc; none = refl; later = cc }
cut_by kind e d es ds false is more own =
    let c = more own in record {
      front = e ∷ c.front;
      back = c.back;
      are = ap (λ (l : List Deed). e ∷ l) c.are;
      none = (λ i. (if is i then e ∷ [] else []) ++ deeds_of kind c.front) ∙ c.none;
      later = c.later;
    }

pub cut_first : (kind : Deed → Bool) (rest : List Deed) (d : Deed) (ds : List Deed) → deeds_of kind rest ≡ d ∷ ds
    → Cut kind rest d ds
cut_first kind [] d ds own = absurd (cc own)
cut_first kind (e ∷ es) d ds own = cut_by kind e d es ds (kind e) refl (cut_first kind es d ds) own

-- ---- the frames of a load

pub load_frames : (from most : ℕ) (tracks : List LoadedTrack) (project : Project) (all : List Frame)
    → all ≡ mix_of project → tracks ≡ loaded_of from most project
    → mix_of (map heard_track tracks) ≡ take most (drop from all)
load_frames from most tracks project all all_is tracks_are =
    ap (λ (ts : List LoadedTrack). mix_of (map heard_track ts)) tracks_are
    ∙ loaded_mix from most project
    ∙ made_from (frame_at project) most from (mix_length project) (min most (mix_length project - from)) refl
    ∙ ap (λ (fs : List Frame). take most (drop from fs)) (sym all_is)

take_len : (most : ℕ) (fs : List Frame) → take (length (take most fs)) fs ≡ take most fs
take_len most fs = ap (λ (n : ℕ). take n fs) (length-take most fs) ∙ take_min most fs

-- a load more, after as many frames
one_more : (from most : ℕ) (all got : List Frame) → got ≡ take most (drop from all)
    → take from all ++ got ≡ take (from + length got) all
one_more from most all got is =
    let many : take (length got) (drop from all) ≡ got =
    ap (λ (fs : List Frame). take (length fs) (drop from all)) is ∙ take_len most (drop from all) ∙ sym is in
    ap (λ (fs : List Frame). take from all ++ fs) (sym many) ∙ sym (take-add from (length got) all)

-- what own deeds say of these frames, by how the bounce went
abbrev Tells : ℕ → List Frame → Result ℕ Refusal → List Deed → Type 0
Tells rate all what own = OnOk what (SaysWhole rate all own)
    × OnErr what ((count : ℕ) × (text_by rate own ≡ take count (wav_text all rate)))

-- other deeds say the same
tells_as : (rate : ℕ) (all : List Frame) (what : Result ℕ Refusal) (xs ys : List Deed)
    → text_by rate ys ≡ text_by rate xs → length_in ys ≡ length_in xs → Tells rate all what xs → Tells rate all what ys
tells_as rate all (Ok bytes) xs ys text long (h, none) = ((text ∙ h.0, long ∙ h.1), tt)
tells_as rate all (Err why) xs ys text long (none, h) = (tt, (h.0, text ∙ h.1))

-- ---- along a list of deeds

module _ {D V : Type 0} (disk : Ghosts D) (vaults : vault.Ghosts V) (start now : Core D) (whole : List Deed)
    (stands : StandsFor (origin disk vaults start) now whole) (tell : AllTell vaults) (held : IsHeld disk start)
    (kind : Deed → Bool) (pin : ℕ) (all : List Frame) where
  abbrev t : model.Studio
  t = studio_of disk start

  abbrev Shows : List Deed → Type 0
  Shows ds = pin_frames t.rate t.state (entries_of ds) pin ≡ Some all

  shows_on : (ds es : List Deed) → Shows ds → Shows (ds ++ es)
  shows_on ds es h =
      ap (λ (z : List Entry). pin_frames t.rate t.state z pin) (entries_append ds es)
      ∙ frames_on t.rate t.state (entries_of ds) (entries_of es) pin all h

  stands_at : (front back : List Deed) (d : Deed) → whole ≡ front ++ d ∷ back
      → StandsFor (origin disk vaults start) now (front ++ d ∷ back)
  stands_at front back d is = subst (StandsFor (origin disk vaults start) now) is stands

  -- the deeds that are left, after those that were gone through
  record Left (own : List Deed) : Type 0 where
    gone : List Deed
    rest : List Deed
    are : whole ≡ gone ++ rest
    shows : Shows gone
    own_is : deeds_of kind rest ≡ own

  -- the next of the kind
  record Next (d : Deed) (own : List Deed) : Type 0 where
    front : List Deed
    back : List Deed
    are : whole ≡ front ++ d ∷ back
    shows : Shows front
    left : Left own

  next_of : (d : Deed) (own : List Deed) → Left (d ∷ own) → Next d own
  next_of d own l =
      let c = cut_first kind l.rest d own l.own_is in
      let are : whole ≡ (l.gone ++ c.front) ++ d ∷ c.back =
      l.are ∙ ap (λ (z : List Deed). l.gone ++ z) c.are ∙ sym (append_assoc l.gone c.front (d ∷ c.back)) in
      let shows : Shows (l.gone ++ c.front) = shows_on l.gone c.front l.shows in
      record {
        front = l.gone ++ c.front;
        back = c.back;
        are = are;
        shows = shows;
        left = record {
          gone = (l.gone ++ c.front) ++ d ∷ [];
          rest = c.back;
          are = are ∙ sym (append_assoc (l.gone ++ c.front) (d ∷ []) c.back);
          shows = shows_on (l.gone ++ c.front) (d ∷ []) shows;
          own_is = c.later;
        };
      }

  loads_tell : (batch from to : ℕ) (loads more : List Deed) → AreLoads pin batch from to loads → Left (loads ++ more)
      → take from all ++ frames_in loads ≡ take to all
  loads_tell batch from to [] more reads l =
      append-nil (take from all) ∙ ap (λ (n : ℕ). take n all) (sym reads)
  loads_tell batch from to (d ∷ ds) more reads l =
      let n = next_of d (ds ++ more) l in
      let at = loads_at disk vaults start now n.front n.back d (stands_at n.front n.back d n.are) tell held pin all
      n.shows from batch reads.0 reads.1 reads.2 in
      let got : frames_by d.what ≡ take batch (drop from all) =
      ap frames_by reads.2 ∙ load_frames from batch reads.0 at.0 all at.1 at.2 in
      sym (append_assoc (take from all) (frames_by d.what) (frames_in ds))
      ∙ ap (λ (fs : List Frame). fs ++ frames_in ds) (one_more from batch all (frames_by d.what) got)
      ∙ loads_tell batch (from + length (frames_by d.what)) to ds more reads.3 n.left

  -- as many frames as were loaded, after the header
  text_loads : (rate : ℕ) {used_up : Bool} {batch len : ℕ} {what : Result ℕ Refusal} {reads : List Deed}
      (more : List Deed) (h : LoadsOf used_up pin batch len what reads) → Left (reads ++ more)
      → (text_by rate reads ≡ wav_head (length all) rate ++ frame_bytes (take h.loads.place all)) × (len ≡ length all)
  text_loads rate {batch = batch} {len = len} {reads = reads} more h l =
      let a : Deed = h.asked in
      let parts : reads ++ more ≡ a ∷ (h.loads.loads ++ (h.loads.last ++ more)) =
      ap (λ (ds : List Deed). ds ++ more) (h.are ∙ ap (λ (ds : List Deed). a ∷ ds) h.loads.are)
      ∙ ap (λ (ds : List Deed). a ∷ ds) (append_assoc h.loads.loads h.loads.last more) in
      let n = next_of a (h.loads.loads ++ (h.loads.last ++ more)) (subst Left parts l) in
      let long : len ≡ length all =
      length_at disk vaults start now n.front n.back a (stands_at n.front n.back a n.are) tell held pin all n.shows
      len h.length_is.0 h.length_is.1 in
      let frames : frames_in h.rest ≡ take h.loads.place all = frames_all h.loads
      ∙ loads_tell batch 0 h.loads.place h.loads.loads (h.loads.last ++ more) h.loads.reads n.left in (
        ap (text_by rate) h.are
            ∙ (λ i. (header_by rate (h.length_is.1 i) ++ header_all h.loads rate i)
            ++ frame_bytes (frames_by (h.length_is.1 i) ++ frames i))
            ∙ (λ i. append-nil (wav_head len rate) i ++ frame_bytes (take h.loads.place all))
            ∙ (λ i. wav_head (long i) rate ++ frame_bytes (take h.loads.place all)),
        long,
      )

  -- the front of a file
  front_of : (rate place : ℕ) → (count : ℕ)
      × (wav_head (length all) rate ++ frame_bytes (take place all) ≡ take count (wav_text all rate))
  front_of rate place =
      let head : List ℕ = wav_head (length all) rate in
      let part : List ℕ = frame_bytes (take place all) in
      let rest : List ℕ = frame_bytes (drop place all) in
      let whole_is : head ++ frame_bytes all ≡ (head ++ part) ++ rest =
      ap (λ (x : List ℕ). head ++ x) (frames_split place all) ∙ sym (append_assoc head part rest) in (
        length (head ++ part),
        sym (ap (take (length (head ++ part))) whole_is ∙ take-append_seam (head ++ part) rest),
      )

  refused_part : (rate : ℕ) (used_up : Bool) (why : Refusal) (reads more : List Deed)
      → Unasked used_up pin why reads → Left (reads ++ more)
      → (count : ℕ) × (text_by rate reads ≡ take count (wav_text all rate))
  refused_part rate used_up why reads more (inl h) l =
      let mute = mute_refused h in
      (0, λ i. mute.header rate i ++ frame_bytes (mute.frames i))
  refused_part rate used_up why reads more (inr (d, len, is, call, what, big, long_is)) l =
      let n = next_of d more (subst (λ (ds : List Deed). Left (ds ++ more)) is l) in
      let long : len ≡ length all =
      length_at disk vaults start now n.front n.back d (stands_at n.front n.back d n.are) tell held pin all n.shows
      len call what in
      let said : text_by rate reads ≡ wav_head (length all) rate ++ frame_bytes (take 0 all) =
      ap (text_by rate) is
      ∙ (λ i. (header_by rate (what i) ++ []) ++ frame_bytes (frames_by (what i) ++ []))
      ∙ (λ i. append-nil (wav_head (long i) rate) i ++ []) in
      let front = front_of rate 0 in
      (front.0, said ∙ front.1)

  -- what those that read the pin say
  reads_tell : (rate : ℕ) (used_up : Bool) (batch : ℕ) (what : Result ℕ Refusal) (reads more : List Deed)
      → ReadsPin used_up pin batch what reads → Left (reads ++ more) → Tells rate all what reads
  reads_tell rate used_up batch (Ok bytes) reads more (inr h) l = absurd h
  reads_tell rate used_up batch (Ok bytes) reads more (inl (len, h)) l =
      let told = text_loads rate more h l in
      let ends = h.loads.ends in (
        (
          told.0 ∙ ap (λ (fs : List Frame). wav_head (length all) rate ++ frame_bytes fs)
              (take_all h.loads.place all (omega (arith, ends.1, told.1))),
          omega (arith, ap length_in h.are, ap length_by h.length_is.1, length_all h.loads, told.1),
        ),
        tt,
      )
  reads_tell rate used_up batch (Err why) reads more (inl (len, h)) l =
      let front = front_of rate h.loads.place in
      (tt, (front.0, (text_loads rate more h l).0 ∙ front.1))
  reads_tell rate used_up batch (Err why) reads more (inr h) l = (tt, refused_part rate used_up why reads more h l)

-- ---- the law

module _ {D V : Type 0} (disk : Ghosts D) (vaults : vault.Ghosts V) (start now : Core D) (before added : List Deed)
    (seat batch : ℕ) (used_up : Bool) (what : Result ℕ Refusal)
    (stands : StandsFor (origin disk vaults start) now (before ++ added)) where
  abbrev began : model.Studio
  began = studio_of disk start

  abbrev kind : Deed → Bool
  kind = by_seat seat

  abbrev whole : List Deed
  whole = before ++ added

  module _ (pin : ℕ) (all : List Frame) (shows : IsMixOf (origin disk vaults start) whole pin all) where
    abbrev Rest : List Deed → Type 0
    Rest own = Left disk vaults start now whole stands shows.told shows.held kind pin all own

    -- after the deed that made the pin
    rest_of : (d : Deed) (own : List Deed) → d.call ≡ Pin → d.what ≡ Ok (reply.Pinned pin)
        → deeds_of kind added ≡ d ∷ own → Rest own
    rest_of d own call_is what_is own_is =
        let c = cut_first kind added d own own_is in
        let front : List Deed = before ++ c.front in
        let gone : List Deed = front ++ d ∷ [] in
        let are : whole ≡ gone ++ c.back =
        ap (λ (z : List Deed). before ++ z) c.are ∙ sym (append_assoc before c.front (d ∷ c.back))
        ∙ sym (append_assoc front (d ∷ []) c.back) in
        let made : IsTrue (is_made pin (entries_of gone)) =
        subst (λ (es : List Entry). IsTrue (is_made pin es)) (sym (entries_append front (d ∷ [])))
        (made_last pin (entries_of front) (entry_of d) (makes d call_is what_is)) in
        let first = frames_made began.rate began.state pin (entries_of gone) made in
        let on : pin_frames began.rate began.state (entries_of whole) pin ≡ Some first.0 =
        ap (λ (ds : List Deed). pin_frames began.rate began.state (entries_of ds) pin) are
        ∙ ap (λ (es : List Entry). pin_frames began.rate began.state es pin) (entries_append gone c.back)
        ∙ frames_on began.rate began.state (entries_of gone) (entries_of c.back) pin first.0 first.1 in
        record {
          gone = gone;
          rest = c.back;
          are = are;
          shows = first.1 ∙ (sym on ∙ shows.frames);
          own_is = c.later;
        }
      where
        makes : (d : Deed) → d.call ≡ Pin → d.what ≡ Ok (reply.Pinned pin)
            → makes_pin (entry_of d).call (entry_of d).reply pin ≡ true
        makes d call_is what_is =
            (λ i. makes_pin (call_is i) (reply_of (what_is i)) pin) ∙ eq-eqb pin pin refl

    -- the deeds after the pin say what those that read it say
    tells_after : (d : Deed) (ds : List Deed) → d.call ≡ Pin → d.what ≡ Ok (reply.Pinned pin)
        → deeds_of kind added ≡ d ∷ ds → AfterPin used_up pin batch what ds → Tells start.rate all what (d ∷ ds)
    tells_after d ds call_is what_is own_is a =
        let pinned = mute_pinned d pin what_is in
        let gone = mute_gone used_up pin (may_let_go what) a.gone a.lets_go in
        tells_as start.rate all what a.reads (d ∷ ds)
        (text_front start.rate (d ∷ []) ds pinned ∙ ap (text_by start.rate) a.are
        ∙ text_back start.rate a.reads a.gone gone)
        (length_front (d ∷ []) ds pinned ∙ ap length_in a.are ∙ length_back a.reads a.gone gone)
        (reads_tell disk vaults start now whole stands shows.told shows.held kind pin all start.rate used_up batch what
        a.reads a.gone a.reads_are
        (subst (λ (own : List Deed). Rest own) a.are (rest_of d ds call_is what_is own_is)))

    tells_of : (own : List Deed) → deeds_of kind added ≡ own → BounceDeeds used_up batch what own → IsOwnPin pin own
        → Tells start.rate all what own
    tells_of [] own_is h mine = absurd mine
    tells_of (d ∷ ds) own_is (call_is, inl (p, made, after)) mine =
        let same : p ≡ pin = cc (sym made ∙ mine) in
        tells_after d ds call_is mine own_is (subst (λ (n : ℕ). AfterPin used_up n batch what ds) same after)
    tells_of (d ∷ ds) own_is (call_is, inr (why, refused, is, none)) mine = absurd (cc (sym refused ∙ mine))

pub bounces_tell : {D V : Type 0} (disk : Ghosts D) (vaults : vault.Ghosts V) → BouncesTell disk vaults
bounces_tell disk vaults start now before added seat batch used_up what stands deeds =
    let own : List Deed = deeds_of (by_seat seat) added in
    let tells : (pin : ℕ) (all : List Frame) → IsOwnPin pin own
    → IsMixOf (origin disk vaults start) (before ++ added) pin all → Tells start.rate all what own =
    λ pin all mine shows.
    tells_of disk vaults start now before added seat batch used_up what stands pin all shows own refl deeds mine in
    record {
      whole = λ pin all mine shows. (tells pin all mine shows).0;
      part = λ pin all mine shows. (tells pin all mine shows).1;
    }
