-- What becomes of the sounds of a vault, line by line.
use Rattle.session_run.proofs.Common.{◌≡◌, ◌⊎◌, inl, inr, ⊎_elim, ◌∙◌, refl, sym, ap, subst, ℕ, Bool, true, false, List}
use Rattle.session_run.proofs.Common.{[], ◌∷◌, ◌++◌, ◌+◌, ◌*◌, append_assoc, length, take, drop, Option, Some, Result}
use Rattle.session_run.proofs.Common.{Ok, Err, arith, eq-eqb, append-nil, MatchBool, Pinned, Wrote, Answers, Run}
use Rattle.session_run.proofs.Common.{result_of, Answer, Reply, Pin, Command, Bounce, Entry, Refusal, Frame}
use Rattle.session_run.proofs.Common.{frame_bytes, current, Ghosts, reply_of, Core, IsHeld, studio_of, as_reply}
use Rattle.session_run.proofs.Common.{is_silent, line_of, Deed, actor_of, entries_of, entry_of, by_seat, deeds_of}
use Rattle.session_run.proofs.Common.{pin_frames, IsMixOf, AllTell, StandsFor, origin, all_told, entries_append, leads}
use Rattle.session_run.proofs.Common.{AfterPin, BounceDeeds, Each, ByOthers, Bounces, Enters, Place, batch, line_deed}
use Rattle.session_run.proofs.Common.{Next, AnswersLines, Turn, scripts_add, same_rest, SoundsFollow, BounceEntries}
use Rattle.session_run.proofs.Common.{entries_by}
use Rattle.session_run.proofs.{BounceEntries.bounce_entries, EntryLemmas.entries_as, EntryLemmas.none_by}
use Rattle.std.proofs.Common.{take-append-drop, IsTrue}
use Rattle.std.specs.{Prelude.IfOk, Prelude.OnErr, Prelude.OnOk, List.flat_map}
use Rattle.pcm_base.specs.{Run.Follows, Form.IsTurn, Mix.mix_of, Wave.wav_text}
use Rattle.editor_views.proofs.ExportLengths.{length_text}
use Rattle.wav_pcm.specs.Written.{MayBegin}
use Rattle.wav_pcm.proofs.GrowLaws.{begun_front}
use Rattle.studio_seats.specs.Pins.{makes_pin}
use Rattle.studio_seats.proofs.{Chains.chain_cut, PinLemmas.frames_at, PinLemmas.run_rate}
use Rattle.sound_bounce.specs.Bounces.{IsOwnPin, IsUnread, TellsMix, frames_in, length_in, text_by}
use Rattle.sound_bounce.proofs.{Sayings.mute_err, TellLemmas.bounces_tell, TellLemmas.cut_first}
use Rattle.script_reader.proofs.AddedLemmas.{turn_sounds}
use Rattle.session_run.specs.VaultSounds.{IsBounceOf, IsNoBounce, IsWholeFile, LineSounds, NextSounds}
use Rattle.pcm_base.specs.Studio as model
use Rattle.edit_ports.specs.declared.vault.Vault as vault

-- ---- a text, and what a sound holds of it

front_whole : (count : ℕ) (text : List ℕ) (old new : Option (List ℕ)) → MayBegin (take count text) old new
    → MayBegin text old new
front_whole count text old new h =
    subst (λ (l : List ℕ). MayBegin l old new) (take-append-drop count text)
    (begun_front old new (take count text) (drop count text) h)

began_by : (L : Type 0) (what : Result ℕ Refusal) (said text : List ℕ) (old new : Option (List ℕ))
    → OnOk what (new ≡ Some said) → OnErr what (MayBegin said old new) → OnOk what ((said ≡ text) × L)
    → OnErr what ((count : ℕ) × (said ≡ take count text)) → MayBegin text old new ⊎ (new ≡ Some text)
began_by L (Ok bytes) said text old new written failed whole part = inr (written ∙ ap Some whole.0)
began_by L (Err why) said text old new written failed whole part =
    inl (front_whole part.0 text old new (subst (λ (l : List ℕ). MayBegin l old new) part.1 failed))

-- how many bytes an answer says
abbrev wrote_by : Reply → ℕ
wrote_by (Wrote bytes) = bytes
wrote_by r = 0

-- what was written where some deeds said all of it, and the number that the answer has
written_by : (what : Result ℕ Refusal) (said : List ℕ) (count : ℕ) (mix : List Frame) (rate : ℕ) (new : Option (List ℕ))
    (bytes : ℕ) → Wrote bytes ≡ reply_of (as_reply Wrote what) → OnOk what (new ≡ Some said)
    → IfOk what (λ n. n ≡ 44 + 4 * count) → OnOk what ((said ≡ wav_text mix rate) × (count ≡ length mix))
    → IsWholeFile mix rate bytes new
written_by (Ok n) said count mix rate new bytes is written size whole = (
  written ∙ ap Some whole.0,
  omega (arith, ap wrote_by is, size, whole.1, length_text mix rate),
)
written_by (Err why) said count mix rate new bytes is written size whole = let no : ⊥ = cc is in absurd no

-- a pin that was refused says nothing
none_said : (rate : ℕ) (d : Deed) (why : Refusal) → d.what ≡ Err why → text_by rate (d ∷ []) ≡ []
none_said rate d why is =
    let mute = mute_err d why is in
    ap (λ (l : List ℕ). l ++ frame_bytes (frames_in (d ∷ []))) (mute.header rate)
    ∙ ap (λ (fs : List Frame). frame_bytes fs) mute.frames

-- a line of which a turn is taken is no bounce
abbrev TakesTurn : Result Command ℕ → Type 0
TakesTurn (Ok c) = IsTurn c
TakesTurn (Err column) = Unit {0}

no_bounce : (c : Command) (es : List Entry) → IsTurn c → IsNoBounce (Ok c) es
no_bounce c es turn = λ name is. absurd (subst (λ (r : Result Command ℕ). TakesTurn r) is turn)

-- what becomes of the sounds by some entries, where `Follow` says what their parts do
pub record SoundsTo (entries : List Entry) (Follow : List (List Entry) → Type 0) : Type 0 where
  pub parts : List (List Entry)
  pub later : List Entry
  pub parted : entries ≡ flat_map (λ (es : List Entry). es) parts ++ later
  pub later_is : entries_by 0 later ≡ []
  pub follows : Follow parts

module _ {D V : Type 0} (disk : Ghosts D) (vaults : vault.Ghosts V) (start final : Core D) (whole : List Deed)
    (stands : StandsFor (origin disk vaults start) final whole) (tell : AllTell vaults) (held : IsHeld disk start) where
  abbrev t0 : model.Studio
  t0 = studio_of disk start

  own_entries : (p : Place) (ds : List Deed) → p.seat ≡ 0
      → entries_by 0 (entries_of ds) ≡ entries_of (deeds_of (by_seat p.seat) ds)
  own_entries p ds seat =
      entries_as 0 ds ∙ ap (λ (n : ℕ). entries_of (deeds_of (by_seat n) ds)) (sym seat)

  -- ---- a bounce

  module _ (p t : Place) (c : Command) (name : List ℕ) (named : c ≡ Bounce name) (a : Answer) (rest : List Deed)
      (x : Bounces p name a.reply t) (is : whole ≡ p.seen ++ (x.added ++ rest)) (seat : p.seat ≡ 0) (rate : p.rate ≡ start.rate)
      (told : IsTrue p.tells) (d : Deed) (ds : List Deed) (own_is : deeds_of (by_seat p.seat) x.added ≡ d ∷ ds) where
    abbrev own : List Deed
    own = deeds_of (by_seat p.seat) x.added

    bounced : IsBounceOf t0 (entries_of p.seen) (entries_of x.added) (Ok c) a p.sounds t.sounds
    bounced =
        let cut = cut_first (by_seat p.seat) x.added d ds own_is in
        let h : BounceDeeds t.used_up batch x.what (d ∷ ds) =
        subst (λ (l : List Deed). BounceDeeds t.used_up batch x.what l) own_is x.own in
        let ahead : List Deed = p.seen ++ cut.front in
        let parts : whole ≡ ahead ++ d ∷ (cut.back ++ rest) =
        is ∙ ap (λ (l : List Deed). p.seen ++ (l ++ rest)) cut.are
        ∙ ap (λ (l : List Deed). p.seen ++ l) (append_assoc cut.front (d ∷ cut.back) rest)
        ∙ sym (append_assoc p.seen cut.front (d ∷ (cut.back ++ rest))) in
        let at = chain_cut disk vaults start ahead (d ∷ (cut.back ++ rest)) final
        (subst (λ (l : List Deed). StandsFor (origin disk vaults start) final l) parts stands).chain in
        let stood : StandsFor (origin disk vaults start) at.0 ahead =
        record { began = stands.began; chain = at.1 } in
        let led = leads (origin disk vaults start) at.0 ahead stood in
        let all_tell = all_told vaults ahead tell in
        let there : model.Studio = studio_of disk at.0 in
        let run : Run t0 (entries_of ahead) there = led.run all_tell held in
        let step : Answers there d.call d.sound d.what (studio_of disk at.2.0) =
        (at.2.1.took (λ some. tell)).step (led.held all_tell held) in
        let same_rate : there.rate ≡ start.rate = run_rate t0 there (entries_of ahead) run in
        -- the deeds up to the last of its own
        let parts_to : whole ≡ (p.seen ++ x.added) ++ rest =
        is ∙ sym (append_assoc p.seen x.added rest) in
        let to = chain_cut disk vaults start (p.seen ++ x.added) rest final
        (subst (λ (l : List Deed). StandsFor (origin disk vaults start) final l) parts_to stands).chain in
        let stands_to : StandsFor (origin disk vaults start) to.0 (p.seen ++ x.added) =
        record { began = stands.began; chain = to.1 } in
        let tells : TellsMix (origin disk vaults start) x.what (p.seen ++ x.added) own =
        bounces_tell disk vaults start to.0 p.seen x.added p.seat batch t.used_up x.what stands_to x.own in
        let mix : List Frame = mix_of (current there.state) in
        let text : List ℕ = wav_text mix there.rate in
        let seen_is : entries_of (p.seen ++ x.added) ≡ entries_of ahead ++ entry_of d ∷ entries_of cut.back =
        ap entries_of (ap (λ (l : List Deed). p.seen ++ l) cut.are ∙ sym (append_assoc p.seen cut.front (d ∷ cut.back)))
        ∙ entries_append ahead (d ∷ cut.back) in
        let shows : (pin : ℕ) → d.what ≡ Ok (Pinned pin)
        → IsMixOf (origin disk vaults start) (p.seen ++ x.added) pin mix = λ pin what_is. record {
          told = tell;
          held = held;
          frames = ap (λ (es : List Entry). pin_frames t0.rate t0.state es pin) seen_is
              ∙ frames_at pin t0 there (studio_of disk at.2.0) (entries_of ahead) (entries_of cut.back) (entry_of d) run
              (subst (λ (w : Result Reply Refusal). Answers there d.call d.sound w (studio_of disk at.2.0))
              (what_is ∙ sym (ap (λ (w : Result Reply Refusal). result_of (reply_of w)) what_is)) step)
              (makes d pin h.0 what_is);
        } in
        let Says : ℕ × ℕ → Type 0 = λ n.
        OnOk x.what ((text_by n.0 own ≡ wav_text mix n.1) × (length_in own ≡ length mix))
        × OnErr x.what ((count : ℕ) × (text_by n.0 own ≡ take count (wav_text mix n.1))) in
        let both : Says (p.rate, there.rate) = ⊎_elim
        (λ (y : (pin : ℕ) × (d.what ≡ Ok (Pinned pin)) × AfterPin t.used_up pin batch x.what ds).
        let mine : IsOwnPin y.0 own = subst (λ (l : List Deed). IsOwnPin y.0 l) (sym own_is) y.1 in
        subst Says (λ i. (sym rate i, sym same_rate i))
        (tells.whole y.0 mix mine (shows y.0 y.1), tells.part y.0 mix mine (shows y.0 y.1)))
        (λ (y : (why : Refusal) × (d.what ≡ Err why) × (x.what ≡ Err why) × (ds ≡ [])).
        let none : text_by p.rate own ≡ [] =
        ap (text_by p.rate) (own_is ∙ ap (λ (l : List Deed). d ∷ l) y.3) ∙ none_said p.rate d y.0 y.1 in
        subst (λ (r : Result ℕ Refusal). OnOk r ((text_by p.rate own ≡ text) × (length_in own ≡ length mix))
        × OnErr r ((count : ℕ) × (text_by p.rate own ≡ take count text))) (sym y.2) (tt, (0, none)))
        h.1 in
        record {
          name = name;
          read = ap Ok named;
          own = subst (λ (es : List Entry). BounceEntries a.reply es) (sym (own_entries p x.added seat))
              (bounce_entries t.used_up x.what own a.reply x.reply x.own);
          others = x.others told;
          front = entries_of cut.front;
          pin = entry_of d;
          back = entries_of cut.back;
          cut = ap entries_of cut.are ∙ entries_append cut.front (d ∷ cut.back);
          by_others = entries_as 0 cut.front
              ∙ ap (λ (n : ℕ). entries_of (deeds_of (by_seat n) cut.front)) (sym seat) ∙ ap entries_of cut.none;
          call = h.0;
          there = there;
          run = subst (λ (es : List Entry). Run t0 es there) (entries_append p.seen cut.front) run;
          written = λ bytes wrote. written_by x.what (text_by p.rate own) (length_in own) mix there.rate (t.sounds name)
              bytes (sym wrote ∙ x.reply) (x.written told) x.size both.0;
          began = began_by (length_in own ≡ length mix) x.what (text_by p.rate own) text (p.sounds name) (t.sounds name) (x.written told)
              (x.failed told) both.0 both.1;
        }
      where
        makes : (d : Deed) (pin : ℕ) → d.call ≡ Pin → d.what ≡ Ok (Pinned pin)
            → makes_pin (entry_of d).call (entry_of d).reply pin ≡ true
        makes d pin call_is what_is =
            (λ i. makes_pin (call_is i) (reply_of (what_is i)) pin) ∙ eq-eqb pin pin refl

  -- ---- one line

  -- what no line changes of a place
  abbrev settled : Place → ℕ × ℕ × Bool
  settled p = (p.seat, p.rate, p.tells)

  -- what is left of a place after it, and its part of the deeds
  record One (p t : Place) (line : Result Command ℕ) (a : Answer) : Type 0 where
    same : settled t ≡ settled p
    part : List Deed
    seen : t.seen ≡ p.seen ++ part
    sounds : LineSounds t0 (entries_of p.seen) (entries_of part) line a p.sounds t.sounds

  -- without a deed
  one_none : (p t : Place) (line : Result Command ℕ) (a : Answer) (used : Bool) → t ≡ record p { used_up = used }
      → One p t line a
  one_none p t line a used same = record {
    same = ap settled same;
    part = [];
    seen = ap (λ (z : Place). z.seen) same ∙ sym (append-nil p.seen);
    sounds = inl (ap (λ (z : Place). z.sounds) same, λ name is. refl);
  }

  -- by one turn
  one_turn : (p t : Place) (c : Command) (a : Answer) → IsTurn c → Enters p c a.reply t → p.seat ≡ 0 → IsTrue p.tells
      → One p t (Ok c) a
  one_turn p t c a turn x seat told =
      let d : Deed = line_deed p c x.what t.sounds in
      let part : List Deed = x.between ++ d ∷ [] in
      record {
        same = ap settled x.after;
        part = part;
        seen = ap (λ (z : Place). z.seen) x.after ∙ append_assoc p.seen x.between (d ∷ []);
        sounds = inl (
          subst (λ (es : List Entry). Follows p.sounds es t.sounds) (sym (own_entries p part seat))
              (turn_sounds p t c a.reply x told),
          no_bounce c (entries_of part) turn,
        );
      }

  -- by those of a bounce
  bounce_sounds : (p t : Place) (c : Command) (name : List ℕ) → c ≡ Bounce name → (a : Answer) (left : List Deed)
      (x : Bounces p name a.reply t) → whole ≡ p.seen ++ (x.added ++ left) → p.seat ≡ 0 → p.rate ≡ start.rate
      → IsTrue p.tells → (own : List Deed) → deeds_of (by_seat p.seat) x.added ≡ own
      → LineSounds t0 (entries_of p.seen) (entries_of x.added) (Ok c) a p.sounds t.sounds
  bounce_sounds p t c name named a left x is seat rate told [] own_is =
      let none : entries_by 0 (entries_of x.added) ≡ [] = own_entries p x.added seat ∙ ap entries_of own_is in inl (
        subst (λ (es : List Entry). Follows p.sounds es t.sounds) (sym none)
            (x.unread (subst (λ (ds : List Deed). Each (λ (d : Deed). IsUnread d.what) ds) (sym own_is) tt)),
        λ other again. none,
      )
  bounce_sounds p t c name named a left x is seat rate told (d ∷ ds) own_is =
      inr (bounced p t c name named a left x is seat rate told d ds own_is)

  one_bounce : (p t : Place) (c : Command) (name : List ℕ) → c ≡ Bounce name → (a : Answer) (left : List Deed)
      → Bounces p name a.reply t → whole ≡ t.seen ++ left → p.seat ≡ 0 → p.rate ≡ start.rate → IsTrue p.tells
      → One p t (Ok c) a
  one_bounce p t c name named a left x is seat rate told =
      let seen : t.seen ≡ p.seen ++ x.added = ap (λ (z : Place). z.seen) x.after in
      let whole_is : whole ≡ p.seen ++ (x.added ++ left) =
      is ∙ ap (λ (l : List Deed). l ++ left) seen ∙ append_assoc p.seen x.added left in
      record {
        same = ap settled x.after;
        part = x.added;
        seen = seen;
        sounds = bounce_sounds p t c name named a left x whole_is seat rate told (deeds_of (by_seat p.seat) x.added)
            refl;
      }

  one_line : (p t : Place) (r : Result Command ℕ) (a : Answer) (left : List Deed) → Turn p r a.reply t
      → whole ≡ t.seen ++ left → p.seat ≡ 0 → p.rate ≡ start.rate → IsTrue p.tells → One p t r a
  one_line p t (Err column) a left h is seat rate told = one_none p t (Err column) a p.used_up h.1
  one_line p t (Ok c) a left (inl h) is seat rate told = one_turn p t c a h.0 h.1 seat told
  one_line p t (Ok c) a left (inr (inl h)) is seat rate told = one_none p t (Ok c) a true h.1
  one_line p t (Ok c) a left (inr (inr (inl h))) is seat rate told = one_none p t (Ok c) a p.used_up h.1
  one_line p t (Ok c) a left (inr (inr (inr h))) is seat rate told =
      one_bounce p t c h.0 h.1 a left h.2 is seat rate told

  -- ---- line by line

  -- the parts of the lines from one place to another
  abbrev Parts : List (List ℕ) → List Answer → Place → Place → List (List Entry) → Type 0
  Parts lines answers p q parts = SoundsFollow t0 (entries_of p.seen) lines answers parts p.sounds q.sounds

  -- the same of a line that is not silent, and the rest
  abbrev NextParts : Result Command ℕ → List (List ℕ) → List Answer → Place → Place → List (List Entry) → Type 0
  NextParts line lines answers p q parts = NextSounds t0 (entries_of p.seen) line answers parts p.sounds
      (λ past more rest mid. SoundsFollow t0 past lines more rest mid q.sounds)

  sounds_both : (p t q : Place) (line : Result Command ℕ) (lines : List (List ℕ)) (a : Answer) (answers : List Answer)
      (left : List Deed) (one : One p t line a) → SoundsTo (entries_of left) (Parts lines answers t q)
      → SoundsTo (entries_of (one.part ++ left)) (NextParts line lines (a ∷ answers) p q)
  sounds_both p t q line lines a answers left one h =
      let flat : List (List Entry) → List Entry = λ parts. flat_map (λ (es : List Entry). es) parts in
      let here : List Entry = entries_of one.part in
      record {
        parts = here ∷ h.parts;
        later = h.later;
        parted = entries_append one.part left ∙ ap (λ (es : List Entry). here ++ es) h.parted
            ∙ sym (append_assoc here (flat h.parts) h.later);
        later_is = h.later_is;
        follows = (
          t.sounds,
          one.sounds,
          subst (λ (es : List Entry). SoundsFollow t0 es lines answers h.parts t.sounds q.sounds)
              (ap entries_of one.seen ∙ entries_append p.seen one.part) h.follows,
        );
      }

  abbrev Goes : List (List ℕ) → Place → Type 0
  Goes lines q = (answers : List Answer) (p : Place) (left : List Deed) → AnswersLines p lines answers q → p.seat ≡ 0
      → p.rate ≡ start.rate → IsTrue p.tells → whole ≡ p.seen ++ left
      → ((later : List Deed) → q.seen ++ later ≡ whole → ByOthers actor_of (0 ∷ []) later
      → SoundsTo (entries_of left) (Parts lines answers p q))

  sounds_next : (b : Bool) (p q : Place) (line : List ℕ) (lines : List (List ℕ)) (answers : List Answer)
      (left : List Deed) → Goes lines q
      → MatchBool b (AnswersLines p lines answers q) (Next p line answers (λ mid more. AnswersLines mid lines more q))
      → p.seat ≡ 0 → p.rate ≡ start.rate → IsTrue p.tells → whole ≡ p.seen ++ left → (later : List Deed)
      → q.seen ++ later ≡ whole → ByOthers actor_of (0 ∷ []) later
      → SoundsTo (entries_of left)
      (λ parts. MatchBool b (Parts lines answers p q parts) (NextParts (line_of line) lines answers p q parts))
  sounds_next true p q line lines answers left go h seat rate told is later end others =
      go answers p left h seat rate told is later end others
  sounds_next false p q line lines [] left go h seat rate told is later end others = absurd h
  sounds_next false p q line lines (a ∷ answers) left go (t, (turn, commit), by_line) seat rate told is later end others =
      let more = scripts_add lines answers t q by_line in
      let rest : List Deed = more.added ++ later in
      let whole_t : whole ≡ t.seen ++ rest =
      sym end ∙ ap (λ (l : List Deed). l ++ later) more.seen ∙ append_assoc t.seen more.added later in
      let one = one_line p t (line_of line) a rest turn whole_t seat rate told in
      let left_is : left ≡ one.part ++ rest = same_rest p.seen left (one.part ++ rest)
      (sym is ∙ whole_t ∙ ap (λ (l : List Deed). l ++ rest) one.seen ∙ append_assoc p.seen one.part rest) in
      subst (λ (l : List Deed). SoundsTo (entries_of l) (NextParts (line_of line) lines (a ∷ answers) p q))
      (sym left_is) (sounds_both p t q (line_of line) lines a answers rest one
      (go answers t rest by_line ((λ i. (one.same i).0) ∙ seat) ((λ i. (one.same i).1) ∙ rate)
      (subst (λ (b : Bool). IsTrue b) (λ i. (sym one.same i).2) told) whole_t later end others))

  pub sounds_to : (lines : List (List ℕ)) (q : Place) → Goes lines q
  sounds_to [] q answers p left h seat rate told is later end others =
      let left_is : left ≡ later =
      same_rest p.seen left later (sym is ∙ (sym end ∙ ap (λ (z : Place). z.seen ++ later) h.1)) in record {
        parts = [];
        later = entries_of left;
        parted = refl;
        later_is = ap (λ (l : List Deed). entries_by 0 (entries_of l)) left_is ∙ none_by 0 later others;
        follows = (h.0, refl, ap (λ (z : Place). z.sounds) h.1);
      }
  sounds_to (line ∷ lines) q answers p left h seat rate told is later end others =
      sounds_next (is_silent line) p q line lines answers left (sounds_to lines q) h seat rate told is later end others
