-- An export: the mix of the current project as a sound of a vault, with nothing of the studio changed.
use Rattle.std.proofs.Common.{rules}
use Rattle.editor_views.proofs.Common.{◌≡◌, ◌⊎◌, inl, inr, ⊎_elim, refl, sym, ap, ◌∙◌, subst, ℕ, ◌+◌, ◌*◌, IsTrue}
use Rattle.editor_views.proofs.Common.{Option, Some, None, List, length, Ok, Err, arith, IfErr, ◌otherwise◌}
use Rattle.editor_views.proofs.Common.{refused_if, Answers, BreaksOff, CarriesOut, followed, outside, stop_of, Call}
use Rattle.editor_views.proofs.Common.{Line, Refusal, Frame, Project, mix_of, mix_length, current, wav_text}
use Rattle.editor_views.proofs.Common.{Kept, Ghosts, Fewer, sources_of, BlockFault, Counted, IsFaultIn, mix_length_of}
use Rattle.editor_views.proofs.Common.{current_tracks, Keeps, meant, length_mix, Entries, IsHeld, IsStudio}
use Rattle.editor_views.proofs.Common.{named_blocks, shown, studio_of, Core, Took, current_meant, current_valid}
use Rattle.editor_views.proofs.Common.{looked_held, looked_studio, stopped_not, fits, ReadsNamed}
use Rattle.std.proofs.lemmas.Bool.{le-ltb, lt-ltb}
use Rattle.pcm_base.specs.Refusals.{too_long}
use Rattle.pcm_base.specs.Run.{IsPartOfMix, refusal_of}
use Rattle.pcm_base.specs.{declared.entry.SoundMove.SoundMove, Counters.no_room, Outside.Outside, Step.mix_file}
use Rattle.disk_model.proofs.Frames.{changed_kept}
use Rattle.project_journal.specs.Gate.{EachSince}
use Rattle.wav_pcm.specs.{Wavs.FitsFile, Written.MayBegin}
use Rattle.sound_export.specs.declared.fault.ExportFault.{ExportFault}
use Rattle.sound_export.specs.declared.fault.ExportFault.TheVariants.{TooLong, Block, VaultFault}
use Rattle.sound_export.specs.Written.{IsLengthFault, IsNoDamage, IsOfDevice, read_part, refusal_of as reason_of_export}
use Rattle.envelope_view.specs.Answers.{IsUndamaged}
use Rattle.editor_state.specs.{Left.IsSoOf, Left.Left, Took.with_sound, Spent.Needed}
use Rattle.editor_state.proofs.Calls.LookCalls.{looked}
use Rattle.editor_state.proofs.Calls.OtherFiles.{NoneGoes, others_none}
use Rattle.editor_state.proofs.Calls.FileRemovals.{ids_same, no_record, none_given}
use Rattle.editor_state.proofs.Refusals.EarlyRefusals.{refuses}
use Rattle.editor_state.proofs.{Images.ImageProjects.keeps_now, Refusals.RefusalEffects.left_read}
use Rattle.editor_views.proofs.ExportLengths.{length_text, mix_len_by}
use Rattle.pcm_base.specs.declared.answer.Reply.TheVariants as reply
use Rattle.pcm_base.specs.declared.command.Command.TheVariants as command
use Rattle.pcm_base.specs.declared.refusal.Refusal.TheVariants as refusal
use Rattle.pcm_base.specs.Studio as model
use Rattle.block_store.specs.declared.fault.BlockFault.TheVariants as fault

-- a fault where the disk has all blocks shows no damaged file
abbrev is_disk : BlockFault → Type 0
is_disk fault.DiskFault = Unit {0}
is_disk (fault.Damaged file found) = ⊥

pub export_undamaged : (why : ExportFault) → IsNoDamage why → IsUndamaged (reason_of_export why)
export_undamaged (TooLong frames) none = tt
export_undamaged (Block fault.DiskFault) none = tt
export_undamaged (Block (fault.Damaged file found)) none = absurd (subst is_disk (sym none) tt)
export_undamaged VaultFault none = tt

module _ {D : Type 0} (disk : Ghosts D) (s : Core D) (is : IsStudio disk s) (name : List ℕ) (sound : SoundMove) where
  abbrev call : Call
  call = Line (command.Export name)

  abbrev t : model.Studio
  t = studio_of disk s

  abbrev out : Outside
  out = outside t sound

  abbrev point_mix : List Frame
  point_mix = mix_of (meant (sources_of (disk.reads s.store)) (current_tracks s.history))

  -- what the model would write
  file_is : mix_file t.rate t.state ≡ wav_text point_mix s.rate
  file_is = ap (λ (p : Project). wav_text (mix_of p) s.rate) (current_meant disk s is)

  -- how long it is, by the layouts
  pub export_len : mix_length_of (current_tracks s.history) ≡ length point_mix
  export_len =
      let src = sources_of (disk.reads s.store) in
      sym (mix_len_by src s.block_size s.next_block s.next_track (current_tracks s.history)
      (current_valid disk s is).valid)
      ∙ sym (length_mix (meant src (current_tracks s.history)))

  len_is : mix_length (current t.state) ≡ length point_mix
  len_is = search (rules, current_meant, length_mix)

  -- ---- it had stopped before

  pub export_stopped : Fewer disk s.store → sound.after ≡ sound.before → (faults : ℕ) → s.stopped ≡ Some faults
      → Took disk s (with_sound call sound (Err (refusal.Stopped faults))) s
  export_stopped fewer quiet faults stopped =
      refuses disk s call sound (refusal.Stopped faults) is fewer refl quiet 0 (λ off. omega arith) 0
      (λ held. (refl, refl))
      (ap (λ (z : Option Refusal). z otherwise rest) (ap stop_of stopped)) tt
    where
      rest : Option Refusal
      rest = (too_long (mix_length (current t.state))) otherwise
          ((no_room t.next_block 0) otherwise (no_room t.state.next_track 0)
          otherwise (no_room t.state.commit 0) otherwise (no_room t.state.next_pin 0) otherwise
          (no_room t.journal_end 0) otherwise (no_room t.generation 0) otherwise (no_room t.next_layout 0))
          otherwise None

  module _ (going : s.stopped ≡ None) (store : D) (kept : Kept disk s.store store) (cache : Entries) (keeps :
      ReadsNamed disk s cache) where
    abbrev here : Core D
    here = looked disk s is store kept cache keeps

    -- ---- what it leaves

    state_is : studio_of disk here ≡ record t { read_faults = disk.read_fault_count store }
    state_is = search (rules, kept.same_reads, kept.same_faults)

    still : IsHeld disk s → EachSince disk s.store store (λ c. Keeps c (shown t))
    still held c since = search (rules, keeps_now, kept.same_images.from)

    done : (bytes : ℕ) → (IsHeld disk s → CarriesOut t call sound (reply.Wrote bytes) (studio_of disk here))
        → Took disk s (with_sound call sound (Ok (reply.Wrote bytes))) here
    done bytes step = record {
      studio = looked_studio disk s is store kept cache keeps;
      held = looked_held disk s is store kept cache keeps;
      step = step;
      any_moment = λ on held c since. inl (still held c since);
      refused = λ on held left. tt;
      now = λ left held. keeps_now disk here is.journal.among left (looked_held disk s is store kept cache keeps held);
      number = omega arith;
      rests = λ some. absurd (stopped_not s.stopped some going);
      len = 0;
      needs = λ held. (0, (refl, refl));
      records = no_record s (Ok (reply.Wrote bytes)) here;
      given = none_given (Ok (reply.Wrote bytes)) s here refl;
      needed = tt;
      changed = changed_kept (others_none s.next_block s.next_block NoneGoes) kept;
      frees = refl;
      ids = ids_same s here refl refl;
      purges = tt;
      untouched = tt;
      stops = inl (refl, kept.same_faults);
      left = tt;
    }

    failed : (why : Refusal)
        → IsSoOf disk s here why → Needed disk s call sound why → (IsHeld disk s → Answers t call sound (Err why) (studio_of disk here))
        → Took disk s (with_sound call sound (Err why)) here
    failed why so needed step = record {
      studio = looked_studio disk s is store kept cache keeps;
      held = looked_held disk s is store kept cache keeps;
      step = step;
      any_moment = λ on held c since. inl (still held c since);
      refused = λ on held left c since. still held c since;
      now = λ left held. keeps_now disk here is.journal.among left (looked_held disk s is store kept cache keeps held);
      number = refl;
      rests = λ some. absurd (stopped_not s.stopped some going);
      len = 0;
      needs = λ held. (0, (refl, refl));
      records = no_record s (Err why) here;
      given = tt;
      needed = needed;
      changed = changed_kept (others_none s.next_block s.next_block NoneGoes) kept;
      frees = refl;
      ids = ids_same s here refl refl;
      purges = tt;
      untouched = λ device. kept;
      stops = inl (refl, kept.same_faults);
      left = left_read disk s store cache why so;
    }

    -- ---- carried out

    passes : too_long (mix_length (current t.state)) ≡ None → refusal_of out t call 0 0 ≡ None
    passes own =
        let block = fits t.next_block 0 (omega (arith, is.counters.block_most)) in
        let track = fits t.state.next_track 0 (omega (arith, is.counters.track_most)) in
        let commit = fits t.state.commit 0 (omega (arith, is.counters.commit_most)) in
        let pin = fits t.state.next_pin 0 (omega (arith, is.counters.pin_most)) in
        let end = fits t.journal_end 0 (omega (arith, is.counters.end_most)) in
        let later = fits t.generation 0 (omega (arith, is.journal.generation_most)) in
        let drawn = fits t.next_layout 0 (omega (arith, is.layouts)) in
        λ i. (stop_of (going i)) otherwise (own i) otherwise
        ((block i) otherwise (track i) otherwise (commit i) otherwise (pin i) otherwise (end i) otherwise (later i)
        otherwise (drawn i)) otherwise None

    follows : disk.read_fault_count store ≡ disk.read_fault_count s.store
        → studio_of disk here ≡ followed out t call 0 0 t.next_layout
    follows faults = search (rules, state_is)

    pub exported : (bytes len : ℕ) → len ≡ length point_mix → FitsFile len → bytes ≡ 44 + 4 * len
        → disk.read_fault_count store ≡ disk.read_fault_count s.store
        → (IsHeld disk s → sound.after ≡ Some (wav_text point_mix s.rate))
        → Took disk s (with_sound call sound (Ok (reply.Wrote bytes))) here
    exported bytes len long few size faults written = done bytes (λ held. record {
      blocks = 0;
      len = 0;
      layout = t.next_layout;
      needs = (refl, refl);
      draws = (omega arith, omega arith);
      passed = passes (ap too_long (len_is ∙ sym long)
          ∙ ap (λ b. refused_if b (refusal.TooLong len)) (le-ltb 4294967295 (36 + 4 * len) (omega (arith, few))));
      answers = ap reply.Wrote (omega (arith, size, long, length_text point_mix s.rate, ap length file_is));
      is = follows faults;
      heard = written held ∙ ap Some (sym file_is);
    })

    -- ---- not carried out

    part : MayBegin (wav_text point_mix s.rate) sound.before sound.after → IsPartOfMix t.rate t sound
    part (inl same) = inl same
    part (inr (count, within, front)) = search (rules, inr, file_is)

    breaks : (IsHeld disk s → MayBegin (wav_text point_mix s.rate) sound.before sound.after) → IsHeld disk s
        → BreaksOff t call sound (studio_of disk here)
    breaks begun held =
        let same : s.next_block ≡ s.next_block + 0 = omega arith in record {
          going = going;
          blocks = 0;
          len = 0;
          needs = (refl, refl);
          room = omega (arith, is.counters.block_most);
          is = state_is ∙ (λ i. record t {
            next_block = same i;
            read_faults = disk.read_fault_count store;
            change_faults = sym kept.same_faults i;
          });
          leaves = part (begun held);
        }

    -- what it leaves, whatever the vault tells
    pub export_left : (why : ExportFault)
        → Counted (read_part why) (disk.read_fault_count s.store) (disk.read_fault_count store)
        → (IsTrue (disk.tells s.store) → IfErr (read_part why) (λ e. IsFaultIn (disk.reads s.store) (named_blocks s) e))
        → Left disk s here (reason_of_export why)
    export_left (TooLong frames) counted named = left_read disk s store cache (refusal.TooLong frames) tt
    export_left (Block fault.DiskFault) counted named = search (rules, left_read, inl)
    export_left (Block (fault.Damaged file found)) counted named = search (rules, left_read)
    export_left VaultFault counted named = left_read disk s store cache refusal.VaultFault tt

    pub export_failed : (why : ExportFault) (len : ℕ) → len ≡ length point_mix → IsLengthFault len why
        → Counted (read_part why) (disk.read_fault_count s.store) (disk.read_fault_count store)
        → (IsOfDevice why ⊎ (sound.after ≡ sound.before))
        → (IsHeld disk s → MayBegin (wav_text point_mix s.rate) sound.before sound.after)
        → (IsTrue (disk.tells s.store) → IfErr (read_part why) (λ e. IsFaultIn (disk.reads s.store) (named_blocks s) e))
        → Took disk s (with_sound call sound (Err (reason_of_export why))) here
    export_failed (TooLong frames) len long fault counted untouched begun named =
        failed (refusal.TooLong frames) tt tt (λ held. inl (record {
          blocks = 0;
          len = 0;
          needs = (refl, refl);
          first =
              let own : too_long (mix_length (current t.state)) ≡ Some (refusal.TooLong frames) =
              ap too_long (len_is ∙ sym long)
              ∙ ap (λ b. refused_if b (refusal.TooLong len)) (lt-ltb 4294967295 (36 + 4 * len) fault.1)
              ∙ ap (λ (n : ℕ). Some (refusal.TooLong n)) (sym fault.0) in
              λ i. (stop_of (going i)) otherwise (own i) otherwise
              ((no_room t.next_block 0) otherwise (no_room t.state.next_track 0)
              otherwise (no_room t.state.commit 0) otherwise (no_room t.state.next_pin 0) otherwise
              (no_room t.journal_end 0) otherwise (no_room t.generation 0) otherwise (no_room t.next_layout 0))
              otherwise None;
          same = state_is ∙ (λ i. record t { read_faults = counted i });
          quiet = ⊎_elim (λ of. absurd of) (λ same. same) untouched;
        }))
    export_failed (Block fault.DiskFault) len long of counted untouched begun named =
        failed refusal.DiskFault (inl (record { rose = counted.0; later = counted.1 })) tt
        (λ held. inr (inr (record {
          breaks = breaks begun held;
          cause = inl (record { goes_on = going; rose = counted.0; later = counted.1; changes = kept.same_faults });
        })))
    export_failed (Block (fault.Damaged file found)) len long of counted untouched begun named =
        search (rules, failed, inr, breaks)
    export_failed VaultFault len long of counted untouched begun named =
        failed refusal.VaultFault tt tt (λ held. inr (inr (
          refl,
          record {
            breaks = breaks begun held;
            stopped = going;
            reads = counted;
            changes = kept.same_faults;
          },
        )))
