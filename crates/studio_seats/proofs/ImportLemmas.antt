-- Deeds over vaults that do not report their bytes, as deeds over vaults that do.
use Rattle.studio_seats.proofs.Common.{◌≡◌, inl, inr, ◌∙◌, refl, sym, ap, ℕ, true, IsSome, Option, Some, None}
use Rattle.studio_seats.proofs.Common.{List, [], ◌∷◌, Result, Ok, Err, ◌⊎◌, true≢false, Reply, Call, Line}
use Rattle.studio_seats.proofs.Common.{Refusal, name_in, Ghosts, Each, Core, Took, lasts_took, Deed, AllTell, Chain}
use Rattle.studio_seats.proofs.Common.{Does, origin, IfErr, IfOk, VaultGhosts}
use Rattle.std.proofs.Common.{is_some}
use Rattle.pcm_base.specs.{declared.command.Command.TheVariants.Import}
use Rattle.editor_state.specs.Vaults.{IfCutShort, IsCutShort, left_as}
use Rattle.editor_state.specs.{Exchanges.reads_sound, Took.with_sound}
use Rattle.studio_seats.specs.Imports.{AreReadAs, ImportsLead, IsReadAs, IsReadable, telling}
use Rattle.studio_seats.proofs.Grown.{all_told, leads}

-- a call that reads a sound is an import
import_of : (c : Call) → reads_sound c ≡ true → (name : List ℕ) × (c ≡ Line (Import name))
import_of (Line (Import name)) reads = (name, refl)
import_of c reads = absurd (true≢false (sym reads))

module _ {D V : Type 0} (disk : Ghosts D) (vaults : VaultGhosts V) where
  -- ---- one deed

  -- as it was read
  record ReadOne (old : Core D) (d : Deed) (new : Core D) : Type 0 where
    read : Deed
    is : IsReadAs d read
    does : Does disk (AllTell telling) old read new

  module _ (old new : Core D) (d : Deed) (does : Does disk (AllTell vaults) old d new) where
    -- it names no sound, or vaults report their bytes
    as_told : (IsSome (name_in d.call) → AllTell vaults) → ReadOne old d new
    as_told told = record {
      read = d;
      is = record { same = refl; sound = λ silent. refl };
      does = record {
        removed = does.removed;
        took = λ may. does.took told;
        imported = does.imported;
        lasts = does.lasts;
      };
    }

    -- an import is a step by this sound
    by_sound : (name : List ℕ) → d.call ≡ Line (Import name) → (sound : Option (List ℕ))
        → Took disk old (with_sound (Line (Import name)) (left_as sound) d.what) new → ReadOne old d new
    by_sound name is sound step =
        let took : Took disk old (with_sound d.call (left_as sound) d.what) new = rw is step in record {
          read = record d { sound = left_as sound };
          is = record { same = refl; sound = λ silent. absurd (true≢false (sym (ap reads_sound is) ∙ silent)) };
          does = record {
            removed = [];
            took = λ may. took;
            imported = does.imported;
            lasts = lasts_took disk old (with_sound d.call (left_as sound) d.what) new took;
          };
        }

    by_answer : (name : List ℕ) → d.call ≡ Line (Import name) → (what : Result Reply Refusal) → (IfCutShort what → ⊥)
        → IfOk what (λ r. (bytes : List ℕ)
        × Took disk old (with_sound (Line (Import name)) (left_as (Some bytes)) d.what) new)
        → IfErr what (λ why. IsCutShort why ⊎ ((sound : Option (List ℕ))
        × Took disk old (with_sound (Line (Import name)) (left_as sound) d.what) new))
        → ReadOne old d new
    by_answer name is (Ok r) whole (bytes, took) reason = by_sound name is (Some bytes) took
    by_answer name is (Err why) whole some (inl cut) = absurd (whole cut)
    by_answer name is (Err why) whole some (inr (sound, took)) = by_sound name is sound took

    by_name : (name : Option (List ℕ)) → name_in d.call ≡ name → IsReadable vaults d → ReadOne old d new
    by_name None none readable = as_told (λ some. absurd (true≢false (sym some ∙ ap is_some none)))
    by_name (Some name) named readable = elim (readable (ap is_some named)) [
      | inl told ↦ as_told (λ some. told)
      | inr whole ↦
          let (name_by, is) = import_of d.call whole.0 in
          let imported = does.imported name_by is in
          by_answer name_by is d.what whole.1 imported.some imported.reason
    ]

  -- ---- all of them

  record ReadAll (old : Core D) (ds : List Deed) (new : Core D) : Type 0 where
    read : List Deed
    are : AreReadAs ds read
    chain : Chain disk telling old read new

  read_all : (old : Core D) (ds : List Deed) (new : Core D) → Chain disk vaults old ds new → Each (IsReadable vaults) ds
      → ReadAll old ds new
  read_all old [] new is readable = record { read = []; are = tt; chain = is }
  read_all old (d ∷ ds) new (mid, does, chain) readable =
      let one = by_name old mid d does (name_in d.call) refl readable.0 in
      let rest = read_all mid ds new chain readable.1 in record {
        read = one.read ∷ rest.read;
        are = (one.is, rest.are);
        chain = (mid, one.does, rest.chain);
      }

  pub imports_lead : ImportsLead disk vaults
  imports_lead start now deeds stands readable =
      let all = read_all start deeds now stands.chain readable in record {
        read = all.read;
        are = all.are;
        told = all_told telling all.read (λ v. refl);
        stands = record { began = stands.began; chain = all.chain };
        leads = leads (origin disk telling start) now all.read (record { began = stands.began; chain = all.chain });
      }
