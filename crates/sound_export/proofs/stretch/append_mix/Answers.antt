-- One stretch more is appended.
use Rattle.std.proofs.Common.{◌≡◌, ℕ, ◌++◌, Bool, List, take, drop, min, ◌-◌, Some, refl, sym, ap, subst, ◌∙◌}
use Rattle.std.proofs.Common.{Ok, arith, append-nil}
use Rattle.std.proofs.lemmas.List.{take_all}
use Rattle.std.specs.Prelude.{IsTrue}
use Rattle.disk_model.specs.Disk.{Files}
use Rattle.pcm_base.specs.{declared.sound.Frame.Frame, Mix.mix_of, Recordings.frame_bytes}
use Rattle.edit_ports.specs.Sounds.{sound_bytes, MayHaveGrown}
use Rattle.project_state.specs.{Meaning.meant, Meaning.point_blocks, declared.track.Track.Track}
use Rattle.cell_reader.specs.Stored.{stored_of}
use Rattle.block_cache.specs.Readers.{Reads}
use Rattle.block_cache.proofs.ReaderLaws.{reads_none, reads_then, told_on}
use Rattle.cell_reader.proofs.KeptLaws.{hits_none, hits_then}
use Rattle.mix_reader.specs.Heard.{HasHeard}
use Rattle.mix_reader.proofs.PageLaws.{heard_on, heard_part}
use Rattle.sound_export.specs.declared.buffers.TheConstants.{MIX_FRAMES}
use Rattle.mix_reader.specs.Tracks.{mix_length_of, stored_mix}
use Rattle.wav_pcm.proofs.GrowLaws.{held_more, held_failed}
use Rattle.sound_export.specs.Written.{read_part}
use Rattle.sound_export.proofs.GrowLaws.{is_there, length_mix}
use Rattle.sound_export.proofs.stretch.append_mix.Goals as goal

pub stretches-init : goal.stretches-init
stretches-init g c = record {
  within = omega (arith, c.new-mix.ensures.place);
  reader = c.new-mix.ensures.reader;
  point = c.new-mix.ensures.point;
  reads = reads_none tt (g.met.S.Store.may_fewer _);
  hit = hits_none;
  tells = refl;
  others = λ told other differs. refl;
  faults = refl;
  held = λ told mine.
      let none : take 0 (stored_mix (g.S.Store.reads c.args.reader.now.store) c.args.point.now)
      ≡ take c.new-mix.result.at (stored_mix (g.S.Store.reads c.args.reader.now.store) c.args.point.now) =
      ap (λ (n : ℕ). take n (stored_mix (g.S.Store.reads c.args.reader.now.store) c.args.point.now))
      (sym c.new-mix.ensures.place) in
      c.requires.there told
      ∙ ap Some (sym (append-nil (sound_bytes (g.V.Vault.holds c.args.vault.now c.args.name.now))))
      ∙ ap (λ (fs : List Frame).
      Some (sound_bytes (g.V.Vault.holds c.args.vault.now c.args.name.now) ++ frame_bytes fs)) none;
}

pub stretches-preserved : goal.stretches-preserved
stretches-preserved g c =
    let inv = c.stretches.invariant in
    let name = c.args.name.now in
    let ts = c.args.point.now in
    let at = c.stretches.mix.at in
    let n = c.in_default.field-0 in
    let files : Files = g.S.Store.reads c.args.reader.now.store in
    let T : Bool → Type 0 = λ b. IsTrue b in
    let left : n ≡ min MIX_FRAMES (mix_length_of ts - at) =
    c.in_default.ensures.count
    ∙ ap (λ (us : List Track). min MIX_FRAMES (mix_length_of us - at)) inv.point in
    record {
      within = omega (arith, inv.within, left, c.in_default.ensures.place, c.mix_len-len.ensures.value);
      reader = c.append_stretch.ensures.reader;
      point = c.append_stretch.ensures.point ∙ inv.point;
      reads = reads_then {x = tt} inv.reads
          (subst (λ (us : List Track). Reads (point_blocks us) c.stretches.reader c.append_stretch.new.reader
          (Ok (tt {0}))) inv.point c.in_default.ensures.reads);
      hit = hits_then (λ has. has) (λ has same. subst
          (λ (us : List Track). HasHeard c.stretches.reader.cache at (mix_length_of us) us) (sym inv.point)
          (heard_part c.stretches.reader.cache 0 (mix_length_of ts) at (mix_length_of ts) ts (omega arith) (omega arith)
          (heard_on c.args.reader.now.cache c.stretches.reader.cache 0 (mix_length_of ts) ts same has))) inv.hit
          c.in_default.ensures.hit;
      tells = c.append_stretch.ensures.tells ∙ inv.tells;
      others = λ told other differs. c.append_stretch.ensures.others (subst T (sym inv.tells) told) other differs
          ∙ inv.others told other differs;
      faults = c.in_default.ensures.faults ∙ inv.faults;
      held = λ told mine.
          let P : Files
          → List Track → Type 0 = λ f us. g.V.Vault.holds c.append_stretch.new.vault name ≡ Some (sound_bytes
          (g.V.Vault.holds c.stretches.vault name) ++ frame_bytes (take n (drop at (stored_mix f us)))) in
          let got = subst (λ (f : Files). P f c.stretches.mix.point.now) inv.reads.kept.same_reads
          (c.in_default.ensures.appended (subst T (sym inv.tells) told) (told_on inv.reads mine)
          (is_there (g.V.Vault.holds c.stretches.vault name) _ (inv.held told mine))) in
          let Q : ℕ → Type 0 = λ k. g.V.Vault.holds c.append_stretch.new.vault name ≡ Some
          (sound_bytes (g.V.Vault.holds c.args.vault.now name) ++ frame_bytes (take k (stored_mix files ts))) in
          subst Q (sym c.in_default.ensures.place)
          (held_more (g.V.Vault.holds c.args.vault.now name) (g.V.Vault.holds c.stretches.vault name)
          (g.V.Vault.holds c.append_stretch.new.vault name) at n (stored_mix files ts) (inv.held told mine)
          (subst (P files) inv.point got));
    }

pub returns-in-Err-clause-failed : goal.returns-in-Err-clause-failed
returns-in-Err-clause-failed g c = λ told mine.
    let inv = c.stretches.invariant in
    let name = c.args.name.now in
    let ts = c.args.point.now in
    let at = c.stretches.mix.at in
    let files : Files = g.S.Store.reads c.args.reader.now.store in
    let T : Bool → Type 0 = λ b. IsTrue b in
    let P : Files
    → List Track → Type 0 = λ f us. (n : ℕ) × MayHaveGrown (frame_bytes (take n (drop at (stored_mix f us))))
    (g.V.Vault.holds c.stretches.vault name) (g.V.Vault.holds c.append_stretch.new.vault name) in
    let got = subst (λ (f : Files). P f c.stretches.mix.point.now) inv.reads.kept.same_reads
    (c.in-Err.ensures.failed (subst T (sym inv.tells) told) (told_on inv.reads mine)
    (is_there (g.V.Vault.holds c.stretches.vault name) _ (inv.held told mine))) in
    let grown = subst (P files) inv.point got in
    held_failed (g.V.Vault.holds c.args.vault.now name) (g.V.Vault.holds c.stretches.vault name)
    (g.V.Vault.holds c.append_stretch.new.vault name) at grown.0 (stored_mix files ts) (inv.held told mine) grown.1

pub returns-clause-appended : goal.returns-clause-appended
returns-clause-appended g c = λ told mine.
    let inv = c.stretches.invariant in
    let src = stored_of (g.S.Store.reads c.args.reader.now.store) in
    let mix : List Frame = mix_of (meant src c.args.point.now) in
    let all : take c.stretches.mix.at mix ≡ mix = take_all c.stretches.mix.at mix
    (omega (arith, length_mix (meant src c.args.point.now), c.mix_len-len.ensures.frames src)) in
    inv.held told mine ∙ ap (λ (fs : List Frame).
    Some (sound_bytes (g.V.Vault.holds c.args.vault.now c.args.name.now) ++ frame_bytes fs)) all

pub returns-in-Err-clause-reads : goal.returns-in-Err-clause-reads
returns-in-Err-clause-reads g c =
    let inv = c.stretches.invariant in
    reads_then {x = tt} inv.reads
    (subst (λ (us : List Track). Reads (point_blocks us) c.stretches.reader c.append_stretch.new.reader
    (read_part c.in-Err.fault)) inv.point c.in-Err.ensures.reads)

pub returns-clause-reads : goal.returns-clause-reads
returns-clause-reads g c = c.stretches.invariant.reads

pub returns-in-Err-clause-hit : goal.returns-in-Err-clause-hit
returns-in-Err-clause-hit g c =
    let inv = c.stretches.invariant in
    let ts = c.args.point.now in
    let at = c.stretches.mix.at in
    hits_then (λ has. has) (λ has same. subst
    (λ (us : List Track). HasHeard c.stretches.reader.cache at (mix_length_of us) us) (sym inv.point)
    (heard_part c.stretches.reader.cache 0 (mix_length_of ts) at (mix_length_of ts) ts (omega arith) (omega arith)
    (heard_on c.args.reader.now.cache c.stretches.reader.cache 0 (mix_length_of ts) ts same has))) inv.hit
    c.in-Err.ensures.hit

pub returns-clause-hit : goal.returns-clause-hit
returns-clause-hit g c = c.stretches.invariant.hit
