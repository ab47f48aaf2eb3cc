-- What opening answers with the studio of the parts that were found, or with the store where there was no memory.
use Rattle.editor_recovery.proofs.Common.{◌≡◌, Result, Ok, Err, refl, sym, ap, ◌∙◌, subst, IfErr, IfOk, Files, Ghosts}
use Rattle.editor_recovery.proofs.Common.{Form, Log, Saved, opened, sources_of, Core, shown, studio_of, core_of}
use Rattle.editor_recovery.proofs.Common.{assembled, Parts, OpenFault, Found, IsNew, found_in, IsFound, answer_of}
use Rattle.project_state.specs.Meaning.{meant_history}
use Rattle.record_body.proofs.Unnumbered.{history_meant_alike}
use Rattle.editor_core.specs.{declared.studio.Studio.Studio}
use Rattle.editor_recovery.specs.{Found.found_by, Stores.store_of}

module _ {D : Type 0} (store : D) (p : Parts) where
  pub same_store : {disk : Ghosts D} (r : Result (Studio D disk) (OpenFault × D))
      → IfOk r (λ s. core_of s ≡ assembled store p)
      → IfErr r (λ e. (e.0 ≡ OpenFault.NoMemory) × (e.1 ≡ store)) → store_of r ≡ store
  same_store (Ok s) is none = ap (λ (c : Core D). c.store) is
  same_store (Err e) is none = none.1

  pub answers : {disk : Ghosts D} (P : Result Found OpenFault → Type 0) (r : Result (Studio D disk) (OpenFault × D))
      → IfOk r (λ s. core_of s ≡ assembled store p) → IfErr r (λ e. (e.0 ≡ OpenFault.NoMemory) × (e.1 ≡ store))
      → P (Ok (found_in p)) → P (Err OpenFault.NoMemory) → P (answer_of r)
  answers P (Ok s) is none ok refused = subst (λ (c : Core D). P (Ok (found_by c))) (sym is) ok
  answers P (Err e) is none ok refused = rw none.0 refused

  pub each : {disk : Ghosts D} (Q : Core D → Type 0) (r : Result (Studio D disk) (OpenFault × D))
      → IfOk r (λ s. core_of s ≡ assembled store p) → Q (assembled store p) → IfOk r (λ s. Q (core_of s))
  each Q (Ok s) is q = rw is q
  each Q (Err e) is q = tt

  pub new_studio : IsNew (assembled store p)
  new_studio = record { clipboard = refl; pins = refl; next_pin = refl; stopped = refl }

-- what each image keeps is what the studio shows
pub shows_found : {D : Type 0} (disk : Ghosts D) (s : Core D) (files : Files) (form : Form) (log : Log) (kept : Saved)
    → IsFound files form log kept (found_by s) → disk.reads s.store ≡ files
    → opened log kept files ≡ shown (studio_of disk s)
shows_found disk s files form log kept found same = λ i. record {
  rate = sym found.rate i;
  block_size = sym found.block_size i;
  history = means i;
  next_track = sym found.next_track i;
  commit = sym found.commit i;
}
  where
    means : meant_history (sources_of files) kept.history ≡ meant_history (sources_of (disk.reads s.store)) s.history
    means = (λ i. meant_history (sources_of (sym same i)) (sym found.history i))
        ∙ history_meant_alike (sources_of (disk.reads s.store)) s.history
