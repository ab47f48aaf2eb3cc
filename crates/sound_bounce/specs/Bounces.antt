-- What a bounce asks of a desk, and what it leaves of a vault.
use Rattle.std.specs.Prelude.{◌≡◌, ◌⊎◌, ℕ, ◌+◌, ◌*◌, ◌≤◌, ◌<◌, Bool, true, false, IsTrue, List, [], ◌∷◌, ◌++◌, length}
use Rattle.std.specs.Prelude.{map, take, Some, Result, Ok, Err, OnOk, OnErr, IfOk}
use Rattle.std.specs.List.{flat_map}
use Rattle.pcm_base.specs.declared.command.Call.TheVariants.{LoadPin, Pin, PinLen, Unpin}
use Rattle.pcm_base.specs.{declared.answer.Reply.Reply, declared.command.Call.Call}
use Rattle.pcm_base.specs.{declared.limits.TheConstants.COUNTER_LIMIT, declared.lists.LoadedTrack.LoadedTrack}
use Rattle.pcm_base.specs.{declared.refusal.Refusal.Refusal, declared.said.Said.Said, declared.sound.Frame.Frame}
use Rattle.pcm_base.specs.{Arithmetic.counted_from, Causes.Rose, Mix.frame_at, Mix.mix_of, Outside.SameElsewhere}
use Rattle.pcm_base.specs.{Recordings.frame_bytes, Wave.wav_text}
use Rattle.disk_model.specs.declared.store.Store.{Ghosts}
use Rattle.edit_ports.specs.Sounds.{MayHaveGrown, sound_bytes}
use Rattle.mixdown.specs.{declared.loaded.Loaded.Loaded, Loads.IsLoaded, Loads.heard_track, Loads.loaded_tracks}
use Rattle.editor_state.specs.Core.{Core}
use Rattle.sound_bounce.specs.declared.buffers.Buffers.{Buffers}
use Rattle.pin_turn.specs.Counts.{Each}
use Rattle.wav_pcm.specs.{Wavs.wav_head, Written.MayBegin}
use Rattle.studio_seats.specs.Stands.{Origin, StandsFor, origin}
use Rattle.studio_seats.specs.{declared.deed.Deed.Deed, Deeds.number_after, Desks.Views, Desks.spent, Merge.by_seat}
use Rattle.studio_seats.specs.{Merge.deeds_of, Onward.Onward, Shows.IsMixOf}
use Rattle.pcm_base.specs.declared.answer.Reply.TheVariants as reply
use Rattle.pcm_base.specs.declared.refusal.Refusal.TheVariants as refusal
use Rattle.edit_ports.specs.declared.vault.Vault as vault

-- room for this many frames, twice, and for their bytes
abbrev pub HasRoom : ℕ → Buffers → Type 0
HasRoom batch b = (length b.frames.items ≡ batch) × (length b.held.items ≡ batch)
    × (64 + 4 * batch ≤ length b.bytes.items)

-- the frames of what is loaded
abbrev pub loaded_frames : Loaded → List Frame
loaded_frames l = map (frame_at (loaded_tracks l)) (counted_from 0 l.len)

-- ---- what deeds say of a file

-- the frames that a load is answered with: the mix of its tracks
abbrev pub frames_by : Result Reply Refusal → List Frame
frames_by (Ok (reply.Loaded tracks)) = mix_of (map heard_track tracks)
frames_by what = []

-- how many frames a pin was said to have
abbrev pub length_by : Result Reply Refusal → ℕ
length_by (Ok (reply.Length frames)) = frames
length_by what = 0

-- it was not answered
abbrev pub IsUnread : Result Reply Refusal → Type 0
IsUnread (Ok (reply.Length frames)) = ⊥
IsUnread what = Unit {0}

-- the header for that number
abbrev pub header_by : ℕ → Result Reply Refusal → List ℕ
header_by rate (Ok (reply.Length frames)) = wav_head frames rate
header_by rate what = []

-- the same of some deeds, in order
abbrev pub frames_in : List Deed → List Frame
frames_in ds = flat_map (λ (d : Deed). frames_by d.what) ds

abbrev pub length_in : List Deed → ℕ
length_in [] = 0
length_in (d ∷ ds) = length_by d.what + length_in ds

abbrev pub header_in : ℕ → List Deed → List ℕ
header_in rate ds = flat_map (λ (d : Deed). header_by rate d.what) ds

-- The file that the own deeds of a bounce say: a header for as many frames as the pin was said to have, and the frames
-- of the loads, in order. If the pin's length was not answered, it is empty.
abbrev pub text_by : ℕ → List Deed → List ℕ
text_by rate ds = header_in rate ds ++ frame_bytes (frames_in ds)

-- one of the deeds was refused for this reason
abbrev pub WasRefused : Refusal → List Deed → Type 0
WasRefused why [] = ⊥
WasRefused why (d ∷ ds) = (d.what ≡ Err why) ⊎ WasRefused why ds

-- ---- the turns

-- a load of this pin
abbrev pub IsLoadOf : ℕ → Call → Type 0
IsLoadOf pin c = (from count : ℕ) × (c ≡ LoadPin pin from count)

-- a read of this pin
abbrev pub IsReadIn : ℕ → Call → Type 0
IsReadIn pin c = (c ≡ PinLen pin) ⊎ IsLoadOf pin c

-- a read of this pin, or the call that lets it go
abbrev pub IsAfterPin : ℕ → Call → Type 0
IsAfterPin pin c = IsReadIn pin c ⊎ (c ≡ Unpin pin)

-- a call of a bounce
abbrev pub IsOfBounce : Call → Type 0
IsOfBounce c = (c ≡ Pin) ⊎ ((pin : ℕ) × IsAfterPin pin c)

-- the own deeds of a seat that went on
abbrev pub own_in : {D V : Type 0} {disk : Ghosts D} {fits : Call → Type 0} (seat : Views D V disk)
    → Onward fits seat.before seat.after → List Deed
own_in seat h = deeds_of (by_seat seat.before.number) h.added

-- These deeds load a pin from this place on, `batch` frames each at most, and came to the other place. Each begins where
-- the frames of the one before it end.
abbrev pub AreLoads : (pin batch from to : ℕ) → List Deed → Type 0
AreLoads pin batch from to [] = to ≡ from
AreLoads pin batch from to (d ∷ ds) = (tracks : List LoadedTrack) × (d.call ≡ LoadPin pin from batch)
    × (d.what ≡ Ok (reply.Loaded tracks)) × AreLoads pin batch (from + length (frames_by d.what)) to ds

-- it is refused, for a reason of which P holds
abbrev pub RefusedAs : {A : Type 0} → Result A Refusal → (Refusal → Type 0) → Type 0
RefusedAs (Ok x) P = ⊥
RefusedAs (Err why) P = P why

-- after this refusal the pin is there, and a turn is left to let it go
abbrev pub leaves_pin : Refusal → Bool
leaves_pin (refusal.NoPin pin) = false
leaves_pin (refusal.Spent turns) = false
leaves_pin why = true

abbrev pub may_let_go : {A : Type 0} → Result A Refusal → Bool
may_let_go (Ok x) = true
may_let_go (Err why) = leaves_pin why

-- the last turn of a bounce lets its pin go, if there is one; it may be answered that another seat did so
abbrev pub LetsGo : (used_up : Bool) (pin : ℕ) (may : Bool) → List Deed → Type 0
LetsGo used_up pin true ds =
    ((d : Deed) × (ds ≡ d ∷ []) × (d.call ≡ Unpin pin)
    × ((d.what ≡ Ok reply.Done) ⊎ ((why : Refusal) × (d.what ≡ Err why))))
    ⊎ ((ds ≡ []) × (used_up ≡ true))
LetsGo used_up pin false ds = ds ≡ []

-- a deed that was refused so, or none, as no turn was left
abbrev pub IsRefusedBy : (used_up : Bool) → Call → Refusal → List Deed → Type 0
IsRefusedBy used_up call why ds =
    ((d : Deed) × (ds ≡ d ∷ []) × (d.call ≡ call) × (d.what ≡ Err why))
    ⊎ ((ds ≡ []) × (why ≡ spent) × (used_up ≡ true))

-- A load at this place was refused. Or the vault failed; then there is no deed more.
abbrev pub LoadRefused : (used_up : Bool) (pin batch place : ℕ) → Refusal → List Deed → Type 0
LoadRefused used_up pin batch place why ds =
    IsRefusedBy used_up (LoadPin pin place batch) why ds ⊎ ((why ≡ refusal.VaultFault) × (ds ≡ []))

-- how the loads of a mix of this many frames ended: all were loaded, or one was refused
abbrev pub LoadsEnd : {A : Type 0} (used_up : Bool) (pin batch len place : ℕ) → Result A Refusal → List Deed → Type 0
LoadsEnd used_up pin batch len place (Ok x) ds = (ds ≡ []) × (len ≤ place)
LoadsEnd used_up pin batch len place (Err why) ds = LoadRefused used_up pin batch place why ds

-- the deeds that load the mix of a pin, of this many frames
pub record LoadsAll {A : Type 0} (used_up : Bool) (pin batch len : ℕ) (what : Result A Refusal) (ds : List Deed)
    : Type 0 where
  pub place : ℕ
  pub loads : List Deed
  pub last : List Deed
  pub are : ds ≡ loads ++ last
  pub reads : AreLoads pin batch 0 place loads
  pub ends : LoadsEnd used_up pin batch len place what last

-- the deeds that read the mix of a pin, of this many frames
pub record LoadsOf (used_up : Bool) (pin batch len : ℕ) (what : Result ℕ Refusal) (ds : List Deed) : Type 0 where
  pub asked : Deed
  pub rest : List Deed
  pub are : ds ≡ asked ∷ rest
  pub length_is : (asked.call ≡ PinLen pin) × (asked.what ≡ Ok (reply.Length len))
  pub loads : LoadsAll used_up pin batch len what rest

-- no frame is read: the pin's length was refused, or the mix is too long
abbrev pub Unasked : (used_up : Bool) (pin : ℕ) → Refusal → List Deed → Type 0
Unasked used_up pin why ds = IsRefusedBy used_up (PinLen pin) why ds
    ⊎ ((d : Deed) × (len : ℕ) × (ds ≡ d ∷ []) × (d.call ≡ PinLen pin) × (d.what ≡ Ok (reply.Length len))
    × (4294967295 < 36 + 4 * len) × (why ≡ refusal.TooLong len))

-- the deeds that read a pin, as far as they came
abbrev pub ReadsPin : (used_up : Bool) (pin batch : ℕ) → Result ℕ Refusal → List Deed → Type 0
ReadsPin used_up pin batch what ds = ((len : ℕ) × LoadsOf used_up pin batch len what ds)
    ⊎ RefusedAs what (λ why. Unasked used_up pin why ds)

-- The deeds of a bounce after it has its pin: those that read it, and the one that lets it go. What the seat knew of
-- turns that are left is that after each part.
pub record AfterPin (used_up : Bool) (pin batch : ℕ) (what : Result ℕ Refusal) (ds : List Deed) : Type 0 where
  pub reads : List Deed
  pub gone : List Deed
  pub are : ds ≡ reads ++ gone
  pub reads_are : ReadsPin used_up pin batch what reads
  pub lets_go : LetsGo used_up pin (may_let_go what) gone

-- The own deeds of a bounce. There are none where there is no memory or no turn for it. Else the first makes its pin,
-- or is refused.
abbrev pub BounceDeeds : (used_up : Bool) (batch : ℕ) → Result ℕ Refusal → List Deed → Type 0
BounceDeeds used_up batch what [] = (what ≡ Err refusal.NoMemory) ⊎ ((what ≡ Err spent) × (used_up ≡ true))
BounceDeeds used_up batch what (d ∷ ds) = (d.call ≡ Pin)
    × (((pin : ℕ) × (d.what ≡ Ok (reply.Pinned pin)) × AfterPin used_up pin batch what ds)
    ⊎ ((why : Refusal) × (d.what ≡ Err why) × (what ≡ Err why) × (ds ≡ [])))

-- the number that is said: that after the turn of the pin, or 0 where there was no turn
abbrev pub TellsPin : (first : ℕ) (seen : List Deed) (at : ℕ) (added own : List Deed) → Type 0
TellsPin first seen at added [] = at ≡ 0
TellsPin first seen at added (d ∷ ds) = (front back : List Deed) × (added ≡ front ++ d ∷ back)
    × (at ≡ number_after first (seen ++ (front ++ d ∷ [])))

-- ---- the vault

-- a vault before a call and after it, and the name of a sound
pub record Moved (V : Type 0) : Type 1 where
  pub ghosts : vault.Ghosts V
  pub name : List ℕ
  pub old : V
  pub new : V

abbrev pub moved : {V : Type 0} → vault.Ghosts V → List ℕ → V → V → Moved V
moved ghosts name old new = record { ghosts = ghosts; name = name; old = old; new = new }

-- no other sound changes, and the vault tells as much of itself as before
pub record Keeps {V : Type 0} (m : Moved V) : Type 0 where
  pub others : IsTrue (m.ghosts.tells m.old) → SameElsewhere m.name (m.ghosts.holds m.old) (m.ghosts.holds m.new)
  pub tells : m.ghosts.tells m.new ≡ m.ghosts.tells m.old

-- the sound has grown by these bytes
pub record Grows {V : Type 0} (m : Moved V) (bytes : List ℕ) : Type 0 where
  pub keeps : Keeps m
  pub written : IsTrue (m.ghosts.tells m.old)
      → m.ghosts.holds m.new m.name ≡ Some (sound_bytes (m.ghosts.holds m.old m.name) ++ bytes)
  pub faults : m.ghosts.fault_count m.new ≡ m.ghosts.fault_count m.old

-- the vault failed, and the sound is as it was, or has grown by the first of these bytes
pub record GrowFails {V : Type 0} (m : Moved V) (bytes : List ℕ) : Type 0 where
  pub keeps : Keeps m
  pub grown : IsTrue (m.ghosts.tells m.old)
      → MayHaveGrown bytes (m.ghosts.holds m.old m.name) (m.ghosts.holds m.new m.name)
  pub later : m.ghosts.fault_count m.old ≤ m.ghosts.fault_count m.new
  pub rose : Rose (m.ghosts.fault_count m.old) (m.ghosts.fault_count m.new)

-- The count of a vault's faults after a refusal. It rose, and the answer is that the vault failed; or it stayed, and if
-- the answer is that the vault failed, a turn was answered so.
abbrev pub FaultsBy : Refusal → List Deed → (old new : ℕ) → Type 0
FaultsBy why own old new = ((why ≡ refusal.VaultFault) × Rose old new × (old ≤ new))
    ⊎ ((new ≡ old) × (why ≡ refusal.VaultFault → WasRefused refusal.VaultFault own))

abbrev pub FaultsOf : {A : Type 0} → Result A Refusal → List Deed → (old new : ℕ) → Type 0
FaultsOf (Ok x) own old new = new ≡ old
FaultsOf (Err why) own old new = FaultsBy why own old new

-- after all went well the sound holds a text, else it is as it was, or holds the first bytes of the text
pub record Holds {V : Type 0} (m : Moved V) (text : List ℕ) (what : Result ℕ Refusal) : Type 0 where
  pub written : OnOk what (m.ghosts.holds m.new m.name ≡ Some text)
  pub failed : OnErr what (MayBegin text (m.ghosts.holds m.old m.name) (m.ghosts.holds m.new m.name))

-- ---- the calls

-- one load, and what it gave
pub record LoadsNext {D V : Type 0} {disk : Ghosts D} (pin batch from : ℕ) (l : Loaded) (seat : Views D V disk)
    : Type 0 where
  pub onward : Onward (IsLoadOf pin) seat.before seat.after
  pub done : Deed
  pub own : own_in seat onward ≡ done ∷ []
  pub reads : AreLoads pin batch from (from + l.len) (done ∷ [])
  pub frames : frames_by done.what ≡ loaded_frames l
  pub valid : IsLoaded l
  pub fits : l.len ≤ batch
  -- one turn more was taken
  pub longer : length seat.before.seen < length seat.after.seen
  pub few : length seat.before.seen < COUNTER_LIMIT

-- a load that was refused
pub record NextRefused {D V : Type 0} {disk : Ghosts D} (pin batch from : ℕ) (why : Refusal) (seat : Views D V disk)
    : Type 0 where
  pub onward : Onward (IsLoadOf pin) seat.before seat.after
  pub refused : IsRefusedBy seat.after.used_up (LoadPin pin from batch) why (own_in seat onward)

-- The next frames of a pin are loaded, or their load was refused.
abbrev pub NextDone : {A D V : Type 0} {disk : Ghosts D} (pin batch from : ℕ) (next : Loaded) → Result A Refusal
    → Views D V disk → Type 0
NextDone pin batch from next (Ok x) seat = LoadsNext pin batch from next seat
NextDone pin batch from next (Err why) seat = NextRefused pin batch from why seat

-- Frames that were mixed before are written, and then the next are loaded, or refused. If the vault fails, there is no
-- turn.
abbrev pub StepDone : {A E D V : Type 0} {disk : Ghosts D} (pin batch from : ℕ) (held : List Frame) (next : Loaded)
    → Result (Result A Refusal) E → Views D V disk → Moved V → Type 0
StepDone pin batch from held next (Ok load) seat m = Grows m (frame_bytes held) × NextDone pin batch from next load seat
StepDone pin batch from held next (Err e) seat m = GrowFails m (frame_bytes held) × (seat.after ≡ seat.before)

-- The loads so far. The last is in memory. Of the others, the frames that are held are mixed, and those before them are
-- written.
pub record LoadsAhead {D V : Type 0} {disk : Ghosts D} (pin batch to : ℕ) (held : List Frame) (l : Loaded)
    (seat : Views D V disk) (m : Moved V) : Type 0 where
  pub onward : Onward (IsLoadOf pin) seat.before seat.after
  pub before : List Deed
  pub last : Deed
  pub own : own_in seat onward ≡ before ++ last ∷ []
  pub reads : AreLoads pin batch 0 to (before ++ last ∷ [])
  pub frames : frames_by last.what ≡ loaded_frames l
  pub valid : IsLoaded l
  pub fits : l.len ≤ batch
  pub put : List Frame
  pub parts : frames_in before ≡ put ++ held
  pub grows : Grows m (frame_bytes put)

-- the loads so far, whose frames were written
pub record LoadsTo {D V : Type 0} {disk : Ghosts D} (pin batch to : ℕ) (seat : Views D V disk)
    (m : Moved V) : Type 0 where
  pub onward : Onward (IsLoadOf pin) seat.before seat.after
  pub reads : AreLoads pin batch 0 to (own_in seat onward)
  pub grows : Grows m (frame_bytes (frames_in (own_in seat onward)))

-- what becomes of the sound when all loads are done, or one failed
abbrev pub GrowsBy : {A V : Type 0} → Result A Refusal → Moved V → List Deed → Type 0
GrowsBy (Ok x) m own = Grows m (frame_bytes (frames_in own))
GrowsBy (Err why) m own = Keeps m
    × (IsTrue (m.ghosts.tells m.old)
    → MayHaveGrown (frame_bytes (frames_in own)) (m.ghosts.holds m.old m.name) (m.ghosts.holds m.new m.name))
    × FaultsBy why own (m.ghosts.fault_count m.old) (m.ghosts.fault_count m.new)

-- the loads of a mix of this many frames, to their end
pub record LoadsDone {D V A : Type 0} {disk : Ghosts D} (pin batch len : ℕ) (what : Result A Refusal)
    (seat : Views D V disk) (m : Moved V) : Type 0 where
  pub onward : Onward (IsLoadOf pin) seat.before seat.after
  pub loads : LoadsAll seat.after.used_up pin batch len what (own_in seat onward)
  pub grows : GrowsBy what m (own_in seat onward)

-- The file of a pin that has this many frames. TooLong comes before anything is read or written.
pub record Files {D V : Type 0} {disk : Ghosts D} (rate pin batch len : ℕ) (what : Result ℕ Refusal)
    (seat : Views D V disk) (m : Moved V) : Type 0 where
  pub onward : Onward (IsLoadOf pin) seat.before seat.after
  pub loads : LoadsAll seat.after.used_up pin batch len what (own_in seat onward)
      ⊎ ((own_in seat onward ≡ []) × (4294967295 < 36 + 4 * len) × (what ≡ Err (refusal.TooLong len)))
  pub holds : IsTrue (m.ghosts.tells m.old)
      → Holds m (wav_head len rate ++ frame_bytes (frames_in (own_in seat onward))) what
  pub size : IfOk what (λ bytes. bytes ≡ 44 + 4 * len)
  pub too_long : 4294967295 < 36 + 4 * len → m.new ≡ m.old
  pub keeps : Keeps m
  pub faults : FaultsOf what (own_in seat onward) (m.ghosts.fault_count m.old) (m.ghosts.fault_count m.new)

-- what own deeds say of a sound, and what becomes of it
pub record Spares {V : Type 0} (rate : ℕ) (what : Result ℕ Refusal) (own : List Deed) (m : Moved V) : Type 0 where
  pub holds : IsTrue (m.ghosts.tells m.old) → Holds m (text_by rate own) what
  pub size : IfOk what (λ bytes. bytes ≡ 44 + 4 * length_in own)
  pub too_long : 4294967295 < 36 + 4 * length_in own → m.new ≡ m.old
  -- before the length is answered the vault is not asked
  pub unread : Each (λ (d : Deed). IsUnread d.what) own → m.new ≡ m.old
  pub keeps : Keeps m
  pub faults : FaultsOf what own (m.ghosts.fault_count m.old) (m.ghosts.fault_count m.new)

-- a pin's mix was written
pub record IsWritten {D V : Type 0} {disk : Ghosts D} (rate pin batch : ℕ) (what : Result ℕ Refusal)
    (seat : Views D V disk) (m : Moved V) : Type 0 where
  pub onward : Onward (IsReadIn pin) seat.before seat.after
  pub reads : ReadsPin seat.after.used_up pin batch what (own_in seat onward)
  pub spares : Spares rate what (own_in seat onward) m

-- and the pin let go
pub record IsDone {D V : Type 0} {disk : Ghosts D} (rate pin batch : ℕ) (what : Result ℕ Refusal)
    (seat : Views D V disk) (m : Moved V) : Type 0 where
  pub onward : Onward (IsAfterPin pin) seat.before seat.after
  pub after : AfterPin seat.after.used_up pin batch what (own_in seat onward)
  pub spares : Spares rate what (own_in seat onward) m

-- a pin was let go, where it may be
pub record IsGone {D V : Type 0} {disk : Ghosts D} (pin : ℕ) (may : Bool) (seat : Views D V disk) : Type 0 where
  pub onward : Onward (IsAfterPin pin) seat.before seat.after
  pub gone : LetsGo seat.after.used_up pin may (own_in seat onward)

-- A bounce: its turns, what it says, and what becomes of the sound. It says the commit number after the turn of its
-- pin, which is the first of its own. A seat that found that no turn is left takes none.
pub record Bounced {D V : Type 0} {disk : Ghosts D} (o : Origin D V) (batch : ℕ) (said : Said ℕ)
    (seat : Views D V disk) (m : Moved V) : Type 0 where
  pub onward : Onward IsOfBounce seat.before seat.after
  pub deeds : BounceDeeds seat.after.used_up batch said.what (own_in seat onward)
  pub number : TellsPin o.start.commit_number seat.before.seen said.at onward.added (own_in seat onward)
  pub idle : seat.before.used_up ≡ true → onward.added ≡ []
  pub spares : Spares o.start.rate said.what (own_in seat onward) m

-- ---- what it amounts to

-- the first of the own deeds made this pin
abbrev pub IsOwnPin : ℕ → List Deed → Type 0
IsOwnPin pin [] = ⊥
IsOwnPin pin (d ∷ ds) = d.what ≡ Ok (reply.Pinned pin)

-- these deeds say the whole file of these frames, and how many they are
abbrev pub SaysWhole : ℕ → List Frame → List Deed → Type 0
SaysWhole rate all own = (text_by rate own ≡ wav_text all rate) × (length_in own ≡ length all)

-- If the deeds are those of a bounce that went well, the file that they say is that of the mix of the project that was
-- current where its pin was made. If it broke off, they say the first bytes of that file.
pub record TellsMix {D V : Type 0} (o : Origin D V) (what : Result ℕ Refusal) (seen own : List Deed) : Type 0 where
  pub whole : (pin : ℕ) (all : List Frame) → IsOwnPin pin own → IsMixOf o seen pin all
      → OnOk what (SaysWhole o.start.rate all own)
  pub part : (pin : ℕ) (all : List Frame) → IsOwnPin pin own → IsMixOf o seen pin all
      → OnErr what ((count : ℕ) × (text_by o.start.rate own ≡ take count (wav_text all o.start.rate)))

abbrev pub BouncesTell : {D V : Type 0} → Ghosts D → vault.Ghosts V → Type 0
BouncesTell {D} disk vaults = (start now : Core D) (before added : List Deed) (seat batch : ℕ) (used_up : Bool)
    (what : Result ℕ Refusal) → StandsFor (origin disk vaults start) now (before ++ added)
    → BounceDeeds used_up batch what (deeds_of (by_seat seat) added)
    → TellsMix (origin disk vaults start) what (before ++ added) (deeds_of (by_seat seat) added)
