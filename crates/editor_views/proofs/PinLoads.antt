-- Loading a pin is a step that changes nothing but the pages that are kept.
use Rattle.std.proofs.Common.{rules}
use Rattle.editor_views.proofs.Common.{◌≡◌, refl, sym, ap, subst, ℕ, ◌-◌, min, IsTrue, List, Some, None, Ok}
use Rattle.editor_views.proofs.Common.{Err, arith, IfErr, mix_length, Call, Sources, stop_of, Kept, Ghosts, Fewer}
use Rattle.editor_views.proofs.Common.{sources_of, Entries, Counted, CountedBy, IsFaultIn, BlockFault, reason_of}
use Rattle.editor_views.proofs.Common.{reason_damaged, mix_length_of, Track, meant, point_blocks, IsHeld, IsStudio}
use Rattle.editor_views.proofs.Common.{named_blocks, studio_of, Core, Took, quietly, silent, LacksPin, MayFind}
use Rattle.editor_views.proofs.Common.{looked_ok, looked_failed, looked_wanting, IsQuiet, quiet_passes, carried}
use Rattle.editor_views.proofs.Common.{room_of, refused_own, refused_stopped, fault_among, fits, ReadsNamed}
use Rattle.pcm_base.specs.Mix.{loaded_of}
use Rattle.pcm_base.specs.{declared.command.Call.TheVariants.LoadPin, declared.lists.LoadedTrack.LoadedTrack}
use Rattle.mixdown.specs.{declared.loaded.Loaded.Loaded, Loads.IsLoaded, Loads.Shows, Loads.tracks_in}
use Rattle.mixdown.proofs.LoadLaws.{shown_tracks}
use Rattle.mix_reader.specs.declared.loads.LoadFault.TheVariants.{Block, NoMemory}
use Rattle.mix_reader.specs.Heard.{IsNoDamage, disk_part, refusal_of}
use Rattle.mix_reader.specs.{declared.loads.LoadFault.LoadFault}
use Rattle.editor_state.specs.{Reads.Looks}
use Rattle.editor_state.proofs.Calls.LookAnswers.{undamaged, unread_looks}
use Rattle.editor_state.proofs.{Refusals.EarlyRefusals.wants}
use Rattle.editor_views.proofs.UnpinSteps.{lacks_own, pin_meant, pin_named, has_own}
use Rattle.pcm_base.specs.declared.answer.Reply.TheVariants as reply
use Rattle.pcm_base.specs.declared.refusal.Refusal.TheVariants as refusal
use Rattle.pcm_base.specs.Studio as model

-- as many frames as there are
pub loaded_many : (src : Sources) (ts : List Track) (from most : ℕ) (l : Loaded) → IsLoaded l
    → l.len ≡ min most (mix_length_of ts - from) → mix_length (meant src ts) ≡ mix_length_of ts
    → Shows from (meant src ts) l → tracks_in l ≡ loaded_of from most (meant src ts)
loaded_many src ts from most l is count len shows = search (rules, shown_tracks)

module _ {D : Type 0} (disk : Ghosts D) (s : Core D) (is : IsStudio disk s) (fewer : Fewer disk s.store)
    (pin from count : ℕ) where
  abbrev src : Sources
  src = sources_of (disk.reads s.store)

  abbrev t : model.Studio
  t = studio_of disk s

  abbrev load : Call
  load = LoadPin pin from count

  load_quiet : IsQuiet load
  load_quiet = search rules

  pub load_stopped : (faults : ℕ) → s.stopped ≡ Some faults
      → Took disk s (quietly load (Err (refusal.Stopped faults))) s
  load_stopped faults stopped = refused_stopped disk s load load_quiet tt is fewer faults refl stopped

  pub load_lacks : s.stopped ≡ None → LacksPin pin s.pins → Took disk s (quietly load (Err (refusal.NoPin pin))) s
  load_lacks going lacks = refused_own disk s load load_quiet tt is fewer (refusal.NoPin pin) (ap stop_of going)
      (lacks_own disk s is pin lacks)

  pub load_wants : Took disk s (quietly load (Err refusal.NoMemory)) s
  load_wants = wants disk s load silent is fewer tt refl 0 (λ held. (0, (refl, refl)))

  module _ (going : s.stopped ≡ None) (point : List Track) (found : MayFind s.pins pin (Some point)) (store : D)
      (kept : Kept disk s.store store) (cache : Entries) (keeps : ReadsNamed disk s cache) where
    pub load_done : (tracks : List LoadedTrack) → disk.read_fault_count store ≡ disk.read_fault_count s.store
        → (IsHeld disk s → tracks ≡ loaded_of from count (meant src point))
        → Took disk s (quietly load (Ok (reply.Loaded tracks))) (record s { store = store; cache = cache })
    load_done tracks faults loaded =
        let room = room_of disk s load is in
        let passed = quiet_passes t load load_quiet room refl (ap stop_of going) (has_own disk s is pin point found)
        (fits s.next_pin 0 (omega (arith, is.counters.pin_most))) in
        looked_ok disk s is store kept cache keeps load load_quiet tt going tt (reply.Loaded tracks) faults
        (λ held. carried t load load_quiet room refl (reply.Loaded tracks) t passed (
          meant src point,
          pin_meant disk s is pin point found,
          ap reply.Loaded (loaded held),
        ) refl)

    -- there is no memory for what was loaded
    pub load_wanting : disk.read_fault_count store ≡ disk.read_fault_count s.store
        → Took disk s (quietly load (Err refusal.NoMemory)) (record s { store = store; cache = cache })
    load_wanting faults = looked_wanting disk s is store kept cache keeps load load_quiet tt going faults

    pub load_failed : (why : BlockFault)
        → CountedBy why (disk.read_fault_count s.store) (disk.read_fault_count store)
        → (IsTrue (disk.tells s.store) → IsFaultIn (disk.reads s.store) (point_blocks point) why)
        → Took disk s (quietly load (Err (reason_of why))) (record s { store = store; cache = cache })
    load_failed why counted damaged =
        looked_failed disk s is store kept cache keeps load load_quiet tt going refl why counted
        (λ told. reason_damaged (disk.reads s.store) (named_blocks s) why (fault_among (disk.reads s.store)
        (named_blocks s) (point_blocks point) why (pin_named disk s is pin point found) (damaged told)))

    -- memory, the disk or a file failed; memory is asked for before the disk
    pub load_looks : (why : LoadFault)
        → Counted (disk_part {T = ℕ} (Err why)) (disk.read_fault_count s.store) (disk.read_fault_count store)
        → (IsTrue (disk.tells s.store)
        → IfErr (disk_part {T = ℕ} (Err why)) (λ e. IsFaultIn (disk.reads s.store) (point_blocks point) e))
        → (IsHeld disk s → IsNoDamage why) → (why ≡ NoMemory → (store ≡ s.store) × (cache ≡ s.cache))
        → Looks disk s load (Err (refusal_of why)) (record s { store = store; cache = cache })
    load_looks (Block why) counted damaged valid memory = search (rules, unread_looks, undamaged, load_failed)
    load_looks NoMemory counted damaged valid memory =
        let same = memory refl in
        let wanted : Took disk s (quietly load (Err refusal.NoMemory)) (record s { store = s.store; cache = cache }) =
        subst (λ (e : Entries). Took disk s (quietly load (Err refusal.NoMemory)) (record s {
          store = s.store;
          cache = e;
        })) (sym same.1) load_wants in
        unread_looks disk s load store kept cache refusal.NoMemory (λ held. tt)
        (subst (λ (d : D). Took disk s (quietly load (Err refusal.NoMemory)) (record s { store = d; cache = cache }))
        (sym same.0) wanted)
