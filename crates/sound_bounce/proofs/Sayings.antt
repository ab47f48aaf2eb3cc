-- What deeds one after another say of a file.
use Rattle.sound_bounce.proofs.Common.{◌≡◌, inl, inr, ℕ, ◌+◌, Bool, true, false, List, ◌∷◌, ◌++◌, length, refl, sym}
use Rattle.sound_bounce.proofs.Common.{◌∙◌, ap, subst, arith, Result, Ok, Err, append-nil, frame_bytes, Reply, Call}
use Rattle.sound_bounce.proofs.Common.{Refusal, Frame, Deed, AreLoads, WasRefused, IsRefusedBy, LetsGo, LoadsAll}
use Rattle.sound_bounce.proofs.Common.{LoadsEnd, frames_by, frames_in, header_by, header_in, length_by, length_in}
use Rattle.sound_bounce.proofs.Common.{text_by, []}
use Rattle.std.proofs.{Common.ap₂, lemmas.Grind.flat_map-append}
use Rattle.pcm_base.specs.Recordings.{bytes_of_frame}
use Rattle.sound_bounce.specs.Bounces.{FaultsOf}
use Rattle.pcm_base.specs.declared.answer.Reply.TheVariants as reply
use Rattle.pcm_base.specs.declared.refusal.Refusal.TheVariants as refusal

-- deeds that say nothing of it
pub record IsMute (ds : List Deed) : Type 0 where
  pub header : (rate : ℕ) → header_in rate ds ≡ []
  pub frames : frames_in ds ≡ []
  pub long : length_in ds ≡ 0

pub mute_none : IsMute []
mute_none = record { header = λ rate. refl; frames = refl; long = refl }

-- an answer that says nothing of it
record IsQuiet (what : Result Reply Refusal) : Type 0 where
  header : (rate : ℕ) → header_by rate what ≡ []
  frames : frames_by what ≡ []
  long : length_by what ≡ 0

mute_one : (d : Deed) (what : Result Reply Refusal) → d.what ≡ what → IsQuiet what → IsMute (d ∷ [])
mute_one d what is q = record {
  header = λ rate. ap (λ (w : Result Reply Refusal). header_by rate w ++ []) is ∙ ap (λ l. l ++ []) (q.header rate);
  frames = ap (λ (w : Result Reply Refusal). frames_by w ++ []) is ∙ ap (λ l. l ++ []) q.frames;
  long = omega (arith, ap length_by is, q.long);
}

-- a refusal
pub mute_err : (d : Deed) (why : Refusal) → d.what ≡ Err why → IsMute (d ∷ [])
mute_err d why is = mute_one d (Err why) is (record { header = λ rate. refl; frames = refl; long = refl })

-- a pin that was made
pub mute_pinned : (d : Deed) (pin : ℕ) → d.what ≡ Ok (reply.Pinned pin) → IsMute (d ∷ [])
mute_pinned d pin is =
    mute_one d (Ok (reply.Pinned pin)) is (record { header = λ rate. refl; frames = refl; long = refl })

mute_done : (d : Deed) → d.what ≡ Ok reply.Done → IsMute (d ∷ [])
mute_done d is = mute_one d (Ok reply.Done) is (record { header = λ rate. refl; frames = refl; long = refl })

pub mute_refused : {used_up : Bool} {c : Call} {why : Refusal} {ds : List Deed} → IsRefusedBy used_up c why ds
    → IsMute ds
mute_refused {why = why} (inl (d, are, call, is)) = subst IsMute (sym are) (mute_err d why is)
mute_refused (inr (none, is, found)) = subst IsMute (sym none) mute_none

pub mute_gone : (used_up : Bool) (pin : ℕ) (may : Bool) (ds : List Deed) → LetsGo used_up pin may ds → IsMute ds
mute_gone used_up pin false ds none = subst IsMute (sym none) mute_none
mute_gone used_up pin true ds (inl (d, are, call, inl done)) = subst IsMute (sym are) (mute_done d done)
mute_gone used_up pin true ds (inl (d, are, call, inr (why, is))) = subst IsMute (sym are) (mute_err d why is)
mute_gone used_up pin true ds (inr (none, found)) = subst IsMute (sym none) mute_none

-- loads have no header
header_loaded : (rate pin batch from to : ℕ) (ds : List Deed) → AreLoads pin batch from to ds → header_in rate ds ≡ []
header_loaded rate pin batch from to [] h = refl
header_loaded rate pin batch from to (d ∷ ds) h =
    ap (λ (w : Result Reply Refusal). header_by rate w ++ header_in rate ds) h.2
    ∙ header_loaded rate pin batch (from + length (frames_by d.what)) to ds h.3

length_loaded : (pin batch from to : ℕ) (ds : List Deed) → AreLoads pin batch from to ds → length_in ds ≡ 0
length_loaded pin batch from to [] h = refl
length_loaded pin batch from to (d ∷ ds) h =
    omega (arith, ap length_by h.2, length_loaded pin batch (from + length (frames_by d.what)) to ds h.3)

-- ---- one after another

pub header_on : (rate : ℕ) (xs ys : List Deed) → header_in rate (xs ++ ys) ≡ header_in rate xs ++ header_in rate ys
header_on rate xs ys = flat_map-append (λ (d : Deed). header_by rate d.what) xs ys

pub frames_on : (xs ys : List Deed) → frames_in (xs ++ ys) ≡ frames_in xs ++ frames_in ys
frames_on xs ys = flat_map-append (λ (d : Deed). frames_by d.what) xs ys

pub length_on : (xs ys : List Deed) → length_in (xs ++ ys) ≡ length_in xs + length_in ys
length_on [] ys = omega arith
length_on (x ∷ xs) ys = omega (arith, length_on xs ys)

-- the bytes of frames after others
pub bytes_parts : (xs ys : List Frame) → frame_bytes (xs ++ ys) ≡ frame_bytes xs ++ frame_bytes ys
bytes_parts xs ys = flat_map-append bytes_of_frame xs ys

pub bytes_on : (xs ys : List Deed)
    → frame_bytes (frames_in (xs ++ ys)) ≡ frame_bytes (frames_in xs) ++ frame_bytes (frames_in ys)
bytes_on xs ys = ap frame_bytes (frames_on xs ys) ∙ bytes_parts (frames_in xs) (frames_in ys)

-- with deeds before them that say nothing, and with such deeds after them
pub text_front : (rate : ℕ) (xs ys : List Deed) → IsMute xs → text_by rate (xs ++ ys) ≡ text_by rate ys
text_front rate xs ys mute =
    ap₂ (λ (h : List ℕ) (fs : List Frame). h ++ frame_bytes fs)
    (header_on rate xs ys ∙ ap (λ (h : List ℕ). h ++ header_in rate ys) (mute.header rate))
    (frames_on xs ys ∙ ap (λ (fs : List Frame). fs ++ frames_in ys) mute.frames)

pub text_back : (rate : ℕ) (xs ys : List Deed) → IsMute ys → text_by rate (xs ++ ys) ≡ text_by rate xs
text_back rate xs ys mute =
    ap₂ (λ (h : List ℕ) (fs : List Frame). h ++ frame_bytes fs)
    (header_on rate xs ys ∙ ap (λ (h : List ℕ). header_in rate xs ++ h) (mute.header rate)
    ∙ append-nil (header_in rate xs))
    (frames_on xs ys ∙ ap (λ (fs : List Frame). frames_in xs ++ fs) mute.frames ∙ append-nil (frames_in xs))

pub length_front : (xs ys : List Deed) → IsMute xs → length_in (xs ++ ys) ≡ length_in ys
length_front xs ys mute = omega (arith, length_on xs ys, mute.long)

pub length_back : (xs ys : List Deed) → IsMute ys → length_in (xs ++ ys) ≡ length_in xs
length_back xs ys mute = omega (arith, length_on xs ys, mute.long)

-- the loads of a mix, where they ended otherwise
pub loads_as : {A B : Type 0} {a b : Bool} {pin batch len : ℕ} {what : Result A Refusal} {told : Result B Refusal}
    {ds : List Deed} (h : LoadsAll a pin batch len what ds) → LoadsEnd b pin batch len h.place told h.last
    → LoadsAll b pin batch len told ds
loads_as h ends =
    record { place = h.place; loads = h.loads; last = h.last; are = h.are; reads = h.reads; ends = ends }

-- what came after the loads of a mix says nothing
module _ {A : Type 0} {used_up : Bool} {pin batch len : ℕ} {what : Result A Refusal} {ds : List Deed}
    (h : LoadsAll used_up pin batch len what ds) where
  mute_last : IsMute h.last
  mute_last = by what h.ends
    where
      by : (r : Result A Refusal) → LoadsEnd used_up pin batch len h.place r h.last → IsMute h.last
      by (Ok x) e = subst IsMute (sym e.0) mute_none
      by (Err why) (inl e) = mute_refused e
      by (Err why) (inr (is, none)) = subst IsMute (sym none) mute_none

  pub frames_all : frames_in ds ≡ frames_in h.loads
  frames_all = ap frames_in h.are ∙ frames_on h.loads h.last
      ∙ ap (λ (fs : List Frame). frames_in h.loads ++ fs) mute_last.frames ∙ append-nil (frames_in h.loads)

  pub header_all : (rate : ℕ) → header_in rate ds ≡ []
  header_all rate = ap (header_in rate) h.are ∙ header_on rate h.loads h.last
      ∙ ap₂ (λ (a b : List ℕ). a ++ b) (header_loaded rate pin batch 0 h.place h.loads h.reads) (mute_last.header rate)

  pub length_all : length_in ds ≡ 0
  length_all =
      let loaded = length_loaded pin batch 0 h.place h.loads h.reads in
      omega (arith, ap length_in h.are, length_on h.loads h.last, loaded, mute_last.long)

-- ---- who was told that the vault failed

pub refused_right : (why : Refusal) (xs ys : List Deed) → WasRefused why ys → WasRefused why (xs ++ ys)
refused_right why [] ys h = h
refused_right why (x ∷ xs) ys h = inr (refused_right why xs ys h)

pub refused_left : (why : Refusal) (xs ys : List Deed) → WasRefused why xs → WasRefused why (xs ++ ys)
refused_left why [] ys h = absurd h
refused_left why (x ∷ xs) ys (inl h) = inl h
refused_left why (x ∷ xs) ys (inr h) = inr (refused_left why xs ys h)

-- a call that was refused was told why
pub was_refused : {used_up : Bool} {c : Call} {why : Refusal} {ds : List Deed} → IsRefusedBy used_up c why ds
    → why ≡ refusal.VaultFault → WasRefused refusal.VaultFault ds
was_refused (inl (d, are, call, what)) is =
    subst (WasRefused refusal.VaultFault) (sym are) (inl (what ∙ ap Err is))
was_refused (inr (none, spent_is, found)) is = absurd (cc (sym spent_is ∙ is))

pub faults_as : (what : Result ℕ Refusal) (xs ys : List Deed) (old new : ℕ)
    → (WasRefused refusal.VaultFault xs → WasRefused refusal.VaultFault ys) → FaultsOf what xs old new
    → FaultsOf what ys old new
faults_as (Ok x) xs ys old new f h = h
faults_as (Err why) xs ys old new f (inl h) = inl h
faults_as (Err why) xs ys old new f (inr h) = inr (h.0, λ is. f (h.1 is))
