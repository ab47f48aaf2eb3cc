-- Deeds one after another.
use Rattle.studio_seats.proofs.Common.{refl, List, [], ◌∷◌, ◌++◌, Ghosts, Core, IsStudio, Deed, AllTell, Chain}
use Rattle.studio_seats.proofs.Common.{Does, Origin, StandsFor, VaultGhosts}

module _ {D V : Type 0} (disk : Ghosts D) (vaults : VaultGhosts V) where
  -- one deed more
  chain_more : (old : Core D) (ds : List Deed) (mid : Core D) (d : Deed) (new : Core D)
      → Chain disk vaults old ds mid → Does disk (AllTell vaults) mid d new → Chain disk vaults old (ds ++ d ∷ []) new
  chain_more old [] mid d new is does = (new, rw is at does, refl)
  chain_more old (x ∷ xs) mid d new chain does =
      (chain.0, chain.1, chain_more chain.0 xs mid d new chain.2 does)

  -- between two parts of the deeds there was a studio
  pub chain_cut : (old : Core D) (ds es : List Deed) (new : Core D) → Chain disk vaults old (ds ++ es) new
      → (mid : Core D) × Chain disk vaults old ds mid × Chain disk vaults mid es new
  chain_cut old [] es new chain = (old, refl, chain)
  chain_cut old (d ∷ ds) es new chain =
      let rest = chain_cut chain.0 ds es new chain.2 in
      (rest.0, (chain.0, chain.1, rest.1), rest.2)

-- a call makes the list longer
pub extends : {D V : Type 0} (o : Origin D V) (old new : Core D) (deeds : List Deed) → StandsFor o old deeds
    → (d : Deed) → Does o.disk (AllTell o.vaults) old d new → StandsFor o new (deeds ++ d ∷ [])
extends o old new deeds was d does =
    record { began = was.began; chain = chain_more o.disk o.vaults o.start deeds old d new was.chain does }

-- a studio stands for nothing from itself on
pub begins : {D V : Type 0} (o : Origin D V) → IsStudio o.disk o.start → StandsFor o o.start []
begins o is = record { began = is; chain = refl }
