-- Hearing frames of the mix of the current project, or of a pin.
use Rattle.std.proofs.Common.{rules}
use Rattle.editor_views.proofs.Common.{◌≡◌, refl, sym, ap, ◌∙◌, ℕ, ◌-◌, min, IsTrue, List, length, length-drop}
use Rattle.editor_views.proofs.Common.{take, drop, Some, None, Ok, Err, arith, Line, PinLen, ReadPin, mix_of}
use Rattle.editor_views.proofs.Common.{mix_length, Call, Refusal, Frame, Project, part, Sources, bad_view, stop_of}
use Rattle.editor_views.proofs.Common.{Kept, Ghosts, Fewer, sources_of, BlockFault, CountedBy, IsFaultIn, reason_of}
use Rattle.editor_views.proofs.Common.{reason_damaged, mix_length_of, Track, meant, point_blocks, current_tracks}
use Rattle.editor_views.proofs.Common.{Entries, IsHeld, IsStudio, named_blocks, studio_of, Core, Took, quietly}
use Rattle.editor_views.proofs.Common.{LacksPin, MayFind, current_meant, looked_ok, looked_failed, IsQuiet}
use Rattle.editor_views.proofs.Common.{quiet_passes, carried, room_of, refused_own, refused_stopped, stays_answered}
use Rattle.editor_views.proofs.Common.{fault_among, fits, ReadsNamed, length_mix}
use Rattle.std.proofs.{lemmas.Bool.cases_lt, lemmas.List.take_all}
use Rattle.editor_commits.proofs.{CursorTracks.current_named}
use Rattle.editor_views.proofs.UnpinSteps.{lacks_own, pin_meant, pin_named, has_own}
use Rattle.pcm_base.specs.declared.answer.Reply.TheVariants as reply
use Rattle.pcm_base.specs.declared.command.Command.TheVariants as command
use Rattle.pcm_base.specs.declared.refusal.Refusal.TheVariants as refusal
use Rattle.pcm_base.specs.Studio as model

pub take_few : {A : Type 0} (n most : ℕ) (xs : List A) → n ≡ min most (length xs) → take n xs ≡ take most xs
take_few n most xs few = search (rules, take_all, cases_lt)

-- this many frames, as many as there are
pub as_many : (src : Sources) (ts : List Track) (from most n : ℕ) → n ≡ min most (mix_length_of ts - from)
    → mix_length (meant src ts) ≡ mix_length_of ts
    → take n (drop from (mix_of (meant src ts))) ≡ take most (drop from (mix_of (meant src ts)))
as_many src ts from most n few len = search (rules, take_few, length_mix, length-drop)

module _ {D : Type 0} (disk : Ghosts D) (s : Core D) (is : IsStudio disk s) (fewer : Fewer disk s.store) where
  abbrev src : Sources
  src = sources_of (disk.reads s.store)

  abbrev t : model.Studio
  t = studio_of disk s

  -- ---- the current project

  module _ (from to : ℕ) where
    abbrev mix : Call
    mix = Line (command.Mix from to)

    mix_quiet : IsQuiet mix
    mix_quiet = search rules

    pub mix_stopped : (faults : ℕ) → s.stopped ≡ Some faults → Took disk s (quietly mix (Err (refusal.Stopped faults)))
        s
    mix_stopped faults stopped = refused_stopped disk s mix mix_quiet tt is fewer faults refl stopped

    pub mix_beyond : (why : Refusal) → s.stopped ≡ None → bad_view from to ≡ Some why
        → Took disk s (quietly mix (Err why)) s
    mix_beyond why going bad = refused_own disk s mix mix_quiet tt is fewer why (ap stop_of going) bad

    module _ (going : s.stopped ≡ None) (store : D) (kept : Kept disk s.store store) (cache : Entries) (keeps :
        ReadsNamed disk s cache) where
      pub mix_done : (frames : List Frame) → bad_view from to ≡ None
          → disk.read_fault_count store ≡ disk.read_fault_count s.store
          → (IsHeld disk s → frames ≡ part from to (mix_of (meant src (current_tracks s.history))))
          → Took disk s (quietly mix (Ok (reply.Frames frames))) (record s { store = store; cache = cache })
      mix_done frames good faults heard =
          let room = room_of disk s mix is in
          let passed = quiet_passes t mix mix_quiet room refl (ap stop_of going) good
          (fits s.next_pin 0 (omega (arith, is.counters.pin_most))) in
          looked_ok disk s is store kept cache keeps mix mix_quiet tt going tt (reply.Frames frames) faults
          (λ held. carried t mix mix_quiet room refl (reply.Frames frames) t passed
          (ap reply.Frames (heard held ∙ ap (λ (p : Project). part from to (mix_of p)) (sym (current_meant disk s is))))
          refl)

      pub mix_failed : (why : BlockFault) → CountedBy why (disk.read_fault_count s.store) (disk.read_fault_count store)
          → (IsTrue (disk.tells s.store) → IsFaultIn (disk.reads s.store) (point_blocks (current_tracks s.history)) why)
          → Took disk s (quietly mix (Err (reason_of why))) (record s { store = store; cache = cache })
      mix_failed why counted damaged =
          looked_failed disk s is store kept cache keeps mix mix_quiet tt going refl why counted
          (λ told. reason_damaged (disk.reads s.store) (named_blocks s) why (fault_among (disk.reads s.store)
          (named_blocks s) (point_blocks (current_tracks s.history)) why (current_named disk s is) (damaged told)))

  -- ---- a pin

  module _ (pin : ℕ) where
    len_quiet : IsQuiet (PinLen pin)
    len_quiet = search rules

    pub len_stopped : (faults : ℕ) → s.stopped ≡ Some faults
        → Took disk s (quietly (PinLen pin) (Err (refusal.Stopped faults))) s
    len_stopped faults stopped = refused_stopped disk s (PinLen pin) len_quiet tt is fewer faults refl stopped

    pub len_lacks : s.stopped ≡ None → LacksPin pin s.pins
        → Took disk s (quietly (PinLen pin) (Err (refusal.NoPin pin))) s
    len_lacks going lacks = refused_own disk s (PinLen pin) len_quiet tt is fewer (refusal.NoPin pin) (ap stop_of going)
        (lacks_own disk s is pin lacks)

    pub measured : s.stopped ≡ None → (point : List Track) (n : ℕ) → MayFind s.pins pin (Some point)
        → mix_length (meant src point) ≡ n
        → Took disk s (quietly (PinLen pin) (Ok (reply.Length n))) s
    measured going point n found len =
        let room = room_of disk s (PinLen pin) is in
        let passed = quiet_passes t (PinLen pin) len_quiet room refl (ap stop_of going)
        (has_own disk s is pin point found) (fits s.next_pin 0 (omega (arith, is.counters.pin_most))) in
        stays_answered disk s (PinLen pin) len_quiet tt is fewer tt (reply.Length n)
        (λ held. carried t (PinLen pin) len_quiet room refl (reply.Length n) t passed (
          meant src point,
          pin_meant disk s is pin point found,
          ap reply.Length (sym len),
        ) refl)

    module _ (from count : ℕ) where
      abbrev read : Call
      read = ReadPin pin from count

      read_quiet : IsQuiet read
      read_quiet = search rules

      pub read_stopped : (faults : ℕ) → s.stopped ≡ Some faults
          → Took disk s (quietly read (Err (refusal.Stopped faults))) s
      read_stopped faults stopped = refused_stopped disk s read read_quiet tt is fewer faults refl stopped

      pub read_lacks : s.stopped ≡ None → LacksPin pin s.pins → Took disk s (quietly read (Err (refusal.NoPin pin))) s
      read_lacks going lacks = refused_own disk s read read_quiet tt is fewer (refusal.NoPin pin) (ap stop_of going)
          (lacks_own disk s is pin lacks)

      module _ (going : s.stopped ≡ None) (point : List Track) (found : MayFind s.pins pin (Some point)) (store : D)
          (kept : Kept disk s.store store) (cache : Entries) (keeps : ReadsNamed disk s cache) where
        pub read_done : (frames : List Frame) → disk.read_fault_count store ≡ disk.read_fault_count s.store
            → (IsHeld disk s → frames ≡ take count (drop from (mix_of (meant src point))))
            → Took disk s (quietly read (Ok (reply.Frames frames))) (record s { store = store; cache = cache })
        read_done frames faults heard =
            let room = room_of disk s read is in
            let passed = quiet_passes t read read_quiet room refl (ap stop_of going) (has_own disk s is pin point found)
            (fits s.next_pin 0 (omega (arith, is.counters.pin_most))) in
            looked_ok disk s is store kept cache keeps read read_quiet tt going tt (reply.Frames frames) faults
            (λ held. carried t read read_quiet room refl (reply.Frames frames) t passed (
              meant src point,
              pin_meant disk s is pin point found,
              ap reply.Frames (heard held),
            ) refl)

        pub read_failed : (why : BlockFault)
            → CountedBy why (disk.read_fault_count s.store) (disk.read_fault_count store)
            → (IsTrue (disk.tells s.store) → IsFaultIn (disk.reads s.store) (point_blocks point) why)
            → Took disk s (quietly read (Err (reason_of why))) (record s { store = store; cache = cache })
        read_failed why counted damaged =
            looked_failed disk s is store kept cache keeps read read_quiet tt going refl why counted
            (λ told. reason_damaged (disk.reads s.store) (named_blocks s) why (fault_among (disk.reads s.store)
            (named_blocks s) (point_blocks point) why (pin_named disk s is pin point found) (damaged told)))
