-- The file of a pin: its header, and the frames of the loads.
use Rattle.sound_bounce.proofs.Common.{◌≡◌, ◌⊎◌, inl, inr, ⊎_elim, ℕ, ◌+◌, ◌*◌, ◌≤◌, ◌<◌, List, ◌∷◌, ◌++◌, Option, Some}
use Rattle.sound_bounce.proofs.Common.{refl, sym, ◌∙◌, ap, subst, arith, Result, Ok, Err, MatchResult, append-nil}
use Rattle.sound_bounce.proofs.Common.{IsTrue, IfOk, PinLen, Refusal, Said, Rose, SameElsewhere, frame_bytes, Ghosts}
use Rattle.sound_bounce.proofs.Common.{sound_bytes, View, Each, Core, silent, as_reply, wav_head, Deed, Held, deed}
use Rattle.sound_bounce.proofs.Common.{Says, asked, views, by_seat, deeds_of, origin, own_on, onward_on, onward_self}
use Rattle.sound_bounce.proofs.Common.{onward_as, FaultsBy, Files, WasRefused, Holds, IsLoadOf, IsReadIn, IsUnread}
use Rattle.sound_bounce.proofs.Common.{IsWritten, Keeps, LoadsDone, Moved, ReadsPin, RefusedAs, Spares, Unasked}
use Rattle.sound_bounce.proofs.Common.{frames_in, header_in, length_in, moved, own_in, text_by, []}
use Rattle.sound_bounce.proofs.Sayings.{faults_as, header_all, length_all, loads_as, was_refused, refused_right}
use Rattle.sound_bounce.proofs.TurnLemmas.{answered, refused}
use Rattle.sound_bounce.proofs.VaultLemmas.{keeps_on, keeps_self, still}
use Rattle.wav_pcm.specs.declared.fault.SoundFault.TheVariants.{TooLong, Vault}
use Rattle.wav_pcm.specs.Parts.{IsFor, SoundCountedBy, sound_refusal}
use Rattle.wav_pcm.specs.{Written.IsNotStarted, Written.MayBegin, declared.fault.SoundFault.SoundFault, Wavs.FitsFile}
use Rattle.wav_pcm.proofs.GrowLaws.{begun_front, begun_more}
use Rattle.pcm_base.specs.declared.answer.Reply.TheVariants as reply
use Rattle.pcm_base.specs.declared.refusal.Refusal.TheVariants as refusal
use Rattle.edit_ports.specs.declared.vault.Vault as vault

-- ---- the header

-- why a file was not begun, and the count of the vault's faults then
abbrev pub NotBegun : (len : ℕ) → Refusal → (old new : ℕ) → Type 0
NotBegun len why old new = ((why ≡ refusal.VaultFault) × Rose old new × (old ≤ new))
    ⊎ ((why ≡ refusal.TooLong len) × (4294967295 < 36 + 4 * len) × (new ≡ old))

begun_by : (len old new : ℕ) (why same : SoundFault) → IsNotStarted len why → sound_refusal why ≡ sound_refusal same
    → SoundCountedBy same old new → NotBegun len (sound_refusal why) old new
begun_by len old new Vault Vault not is counted = inl (refl, counted.0, counted.1)
begun_by len old new (TooLong frames) (TooLong count) not is counted = inr (ap refusal.TooLong not.0, not.1, counted)
begun_by len old new Vault other not is counted = absurd cc
begun_by len old new (TooLong frames) other not is counted = absurd cc
begun_by len old new why same not is counted = absurd not

pub not_begun : (len old new : ℕ) (why : Refusal) → IsFor (IsNotStarted len) why
    → IsFor (λ fault. SoundCountedBy fault old new) why → NotBegun len why old new
not_begun len old new why not for =
    subst (λ (r : Refusal). NotBegun len r old new) (sym not.1)
    (begun_by len old new not.0 for.0 not.2 (sym not.1 ∙ for.1) for.2)

module _ {D V : Type 0} {disk : Ghosts D} (ghosts : vault.Ghosts V) (name : List ℕ) (rate pin batch len : ℕ) where
  -- it was not begun
  pub file_refused : (v : View (Held D V disk) Deed) (a b : V) (why : Refusal)
      → NotBegun len why (ghosts.fault_count a) (ghosts.fault_count b)
      → (4294967295 < 36 + 4 * len → b ≡ a)
      → (IsTrue (ghosts.tells a) → MayBegin (wav_head len rate) (ghosts.holds a name) (ghosts.holds b name))
      → (IsTrue (ghosts.tells a) → SameElsewhere name (ghosts.holds a) (ghosts.holds b))
      → ghosts.tells b ≡ ghosts.tells a → Files rate pin batch len (Err why) (views v v) (moved ghosts name a b)
  file_refused v a b why not long failed others tells = record {
    onward = onward_self (IsLoadOf pin) v;
    loads = ⊎_elim
        (λ x. inl (record { place = 0; loads = []; last = []; are = refl; reads = refl; ends = inr (x.0, refl) }))
        (λ x. inr (refl, x.1, ap Err x.0)) not;
    holds = λ told. record {
      written = tt;
      failed = begun_front (ghosts.holds a name) (ghosts.holds b name) (wav_head len rate) [] (failed told);
    };
    size = tt;
    too_long = long;
    keeps = record { others = others; tells = tells };
    faults = ⊎_elim (λ x. inl x) (λ x. inr (x.2, λ is. absurd (cc (sym x.0 ∙ is)))) not;
  }

  -- it was begun, and then the loads came
  module _ (v w : View (Held D V disk) Deed) (a b c : V) (fits : FitsFile len)
      (started : IsTrue (ghosts.tells a) → ghosts.holds b name ≡ Some (wav_head len rate))
      (start : Keeps (moved ghosts name a b)) (faults : ghosts.fault_count b ≡ ghosts.fault_count a) where
    pub file_done : (r : Result (Unit {0}) Refusal) (what : Result ℕ Refusal)
        → MatchResult r (λ _. what ≡ Ok (44 + 4 * len)) (λ why. what ≡ Err why)
        → LoadsDone pin batch len r (views v w) (moved ghosts name b c)
        → Files rate pin batch len what (views v w) (moved ghosts name a c)
    file_done (Ok x) what is h =
        let own : List Deed = own_in (views v w) h.onward in
        subst (λ (z : Result ℕ Refusal). Files rate pin batch len z (views v w) (moved ghosts name a c)) (sym is)
        record {
          onward = h.onward;
          loads = inl (loads_as h.loads h.loads.ends);
          holds = λ told. record {
            written = h.grows.written (still start.tells told)
                ∙ ap (λ (o : Option (List ℕ)). Some (sound_bytes o ++ frame_bytes (frames_in own))) (started told);
            failed = tt;
          };
          size = refl;
          too_long = λ long. absurd (omega (arith, long, fits));
          keeps = keeps_on start h.grows.keeps;
          faults = h.grows.faults ∙ faults;
        }
    file_done (Err why) what is h =
        let own : List Deed = own_in (views v w) h.onward in
        subst (λ (z : Result ℕ Refusal). Files rate pin batch len z (views v w) (moved ghosts name a c)) (sym is)
        record {
          onward = h.onward;
          loads = inl (loads_as h.loads h.loads.ends);
          holds = λ told. record {
            written = tt;
            failed = begun_more (ghosts.holds a name) (ghosts.holds b name) (ghosts.holds c name) (wav_head len rate)
                (frame_bytes (frames_in own)) (started told) (h.grows.1 (still start.tells told));
          };
          size = tt;
          too_long = λ long. absurd (omega (arith, long, fits));
          keeps = keeps_on start h.grows.0;
          faults = subst (λ (n : ℕ). FaultsBy why own n (ghosts.fault_count c)) faults h.grows.2;
        }

-- ---- a sound that was not touched

pub spares_silent : {V : Type 0} (ghosts : vault.Ghosts V) (name : List ℕ) (rate : ℕ) (why : Refusal) (own : List Deed)
    (a : V) → (why ≡ refusal.VaultFault → WasRefused refusal.VaultFault own)
    → Spares rate (Err why) own (moved ghosts name a a)
spares_silent ghosts name rate why own a told = record {
  holds = λ t. record { written = tt; failed = inl refl };
  size = tt;
  too_long = λ long. refl;
  unread = λ none. refl;
  keeps = keeps_self a;
  faults = inr (refl, told);
}

-- ---- the length of a pin is asked

module _ {D V : Type 0} (disk : Ghosts D) (vaults : vault.Ghosts V) (start : Core D) (rate pin batch : ℕ)
    (v w : View (Held D V disk) Deed) (said : Said ℕ)
    (says : Says (origin disk vaults start) (asked (PinLen pin) (as_reply reply.Length said.what) silent) said
    (views v w)) where
  -- it was refused
  pub length_refused : (why : Refusal) → said.what ≡ Err why → (name : List ℕ) (a : V)
      → IsWritten rate pin batch (Err why) (views v w) (moved vaults name a a)
  length_refused why is name a =
      let one = refused (IsReadIn pin) disk vaults start v w (PinLen pin) reply.Length said (inl refl) says why is in
      record {
        onward = one.0;
        reads = inr (inl one.1);
        spares = spares_silent vaults name rate why (own_in (views v w) one.0) a (was_refused one.1);
      }

  -- or answered, and the file was written
  module _ (x : View (Held D V disk) Deed) (len : ℕ) (is : said.what ≡ Ok len) (what : Result ℕ Refusal) (m : Moved V)
      (k : Files rate pin batch len what (views w x) m) where
    abbrev asked_deed : Deed
    asked_deed = deed v.number (PinLen pin) (Ok (reply.Length len)) silent

    abbrev rest : List Deed
    rest = own_in (views w x) k.onward

    -- they are what came after the first deed
    no_header : header_in rate rest ≡ []
    no_header = ⊎_elim (λ all. header_all all rate) (λ none. ap (header_in rate) none.0) k.loads

    no_length : length_in rest ≡ 0
    no_length = ⊎_elim (λ all. length_all all) (λ none. ap length_in none.0) k.loads

    module _ (own : List Deed) (own_is : own ≡ asked_deed ∷ rest) where
      reads_of : ReadsPin x.used_up pin batch what own
      reads_of = ⊎_elim
          (λ all. inl
          (len, record { asked = asked_deed; rest = rest; are = own_is; length_is = (refl, refl); loads = all }))
          (λ none. inr (subst (λ r. RefusedAs r (λ why. Unasked x.used_up pin why own)) (sym none.2)
          (inr (asked_deed, len, own_is ∙ ap (λ (ds : List Deed). asked_deed ∷ ds) none.0, refl, refl, none.1, refl))))
          k.loads

      text_is : wav_head len rate ++ frame_bytes (frames_in rest) ≡ text_by rate own
      text_is = sym (ap (text_by rate) own_is
          ∙ ap (λ (h : List ℕ). (wav_head len rate ++ h) ++ frame_bytes (frames_in rest)) no_header
          ∙ ap (λ (h : List ℕ). h ++ frame_bytes (frames_in rest)) (append-nil (wav_head len rate)))

      length_is : length_in own ≡ len
      length_is = omega (arith, ap length_in own_is, no_length)

      spares_of : Spares rate what own m
      spares_of = record {
        holds = λ told. subst (λ (text : List ℕ). Holds m text what) text_is (k.holds told);
        size = subst (λ (n : ℕ). IfOk what (λ bytes. bytes ≡ 44 + 4 * n)) (sym length_is) k.size;
        too_long = λ long. k.too_long (subst (λ (n : ℕ). 4294967295 < 36 + 4 * n) length_is long);
        unread = λ none. absurd ((subst (λ (ds : List Deed). Each (λ (d : Deed). IsUnread d.what) ds) own_is none).0);
        keeps = k.keeps;
        faults = faults_as what rest own (m.ghosts.fault_count m.old) (m.ghosts.fault_count m.new)
            (λ h. subst (WasRefused refusal.VaultFault) (sym own_is)
            (refused_right refusal.VaultFault (asked_deed ∷ []) rest h)) k.faults;
      }

    pub length_written : IsWritten rate pin batch what (views v x) m
    length_written =
        let one = answered (IsReadIn pin) disk vaults start v w (PinLen pin) reply.Length said (inl refl) says len is in
        let all : List Deed = deeds_of (by_seat v.number) (one.0.added ++ k.onward.added) in
        let own : all ≡ asked_deed ∷ rest = own_on (IsReadIn pin) (IsLoadOf pin) v w x one.0 k.onward
        ∙ ap (λ (ds : List Deed). ds ++ rest) one.1.own in
        record {
          onward = onward_on (IsReadIn pin) v w x one.0
              (onward_as (IsLoadOf pin) (IsReadIn pin) w x (λ c load. inr load) k.onward);
          reads = reads_of all own;
          spares = spares_of all own;
        }
