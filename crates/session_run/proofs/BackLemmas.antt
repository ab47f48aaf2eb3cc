-- What holds of the devices that came back holds of those that were lent.
use Rattle.session_run.proofs.Common.{◌≡◌, sym, subst, change, IsReadOn}
use Rattle.edit_ports.specs.declared.source.Source as source

-- all of them: script, answers, vault, microphone and speaker
module _ {A O V M P : Type 0} (Holds : A × O × V × M × P → Type 0) where
  pub back_to : {script a : A} {out o : O} {vault v : V} {mic m : M} {speaker p : P} → a ≡ script → o ≡ out → v ≡ vault
      → m ≡ mic → p ≡ speaker → Holds (script, out, vault, mic, speaker) → Holds (a, o, v, m, p)
  back_to one two three four five holds =
      subst Holds (λ i. (sym one i, sym two i, sym three i, sym four i, sym five i)) holds

-- the script alone
pub read_back : {A : Type 0} (sources : source.Ghosts A) {before script a : A} → a ≡ script
    → IsReadOn sources (change before script) → IsReadOn sources (change before a)
read_back sources {before} same reads = subst (λ (z : _). IsReadOn sources (change before z)) (sym same) reads
