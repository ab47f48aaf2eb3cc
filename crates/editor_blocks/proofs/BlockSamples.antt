-- New blocks of which it is supposed that they are made: samples for their ids, as their pieces say.
use Rattle.editor_blocks.proofs.Common.{rules, ◌≡◌, refl, sym, ap, ap₂, ◌∙◌, ℕ, ◌+◌, ◌≤◌, ◌<◌, Bool, false}
use Rattle.editor_blocks.proofs.Common.{if◌then◌else◌, ℤ, pos, List, [], ◌∷◌, ◌++◌, length, get_or, arith, eq-eqb}
use Rattle.editor_blocks.proofs.Common.{AllByRecursion, Old, Scaled, Zero, Given, Sources, stretch, samples_of}
use Rattle.editor_blocks.proofs.Common.{all_samples, BlockRef, Piece, length-all_samples, stretch_list, AllFrom}
use Rattle.editor_blocks.proofs.Common.{NewBlock, AreNew, AreWritten, AllNewFrom, beside, contained}
use Rattle.std.proofs.Common.{nat_lt, ◌==◌}
use Rattle.std.proofs.lemmas.Bool.{ne_eqb, lt-ltb, le-ltb}

-- the samples of the new block with this id
abbrev made_samples : Sources → List NewBlock → ℕ → List ℤ
made_samples src [] id = []
made_samples src (b ∷ bs) id = if b.id == id then all_samples src b.pieces else made_samples src bs id

-- below the next id the old samples, from there on those of the new blocks
abbrev pub supposed : (ℕ → ℕ → ℤ) → (ℕ → ℤ) → ℕ → List NewBlock → ℕ → ℕ → ℤ
supposed block given next bs id =
    if nat_lt id next then block id else (λ i. get_or (made_samples (beside block given) bs id) i (pos 0))

module _ (block : ℕ → ℕ → ℤ) (given : ℕ → ℤ) (next : ℕ) (all : List NewBlock) where
  abbrev was : Sources
  was = beside block given

  abbrev now : Sources
  now = beside (supposed block given next all) given

  pub old_same : (id : ℕ) → id < next → supposed block given next all id ≡ block id
  old_same id low = search (rules, lt-ltb)

  module _ (old : List BlockRef) (below : AllByRecursion (λ (b : BlockRef). b.id < next) old) (count : ℕ) where
    same_samples : (ps : List Piece) → AllFrom old count ps → all_samples now ps ≡ all_samples was ps
    same_samples [] from = refl
    same_samples (Old b lo hi ∷ ps) from =
        let low = contained (λ (x : BlockRef). x.id < next) old b below from.0 in
        ap₂ ◌++◌ (ap (λ (f : ℕ → ℤ). samples_of (beside (λ _. f) given) (Old b lo hi)) (old_same b.id low))
        (same_samples ps from.1)
    same_samples (Scaled b lo hi gain ∷ ps) from =
        let low = contained (λ (x : BlockRef). x.id < next) old b below from.0 in
        ap₂ ◌++◌ (ap (λ (f : ℕ → ℤ). samples_of (beside (λ _. f) given) (Scaled b lo hi gain)) (old_same b.id low))
        (same_samples ps from.1)
    same_samples (Zero len ∷ ps) from = ap (λ (xs : List ℤ). samples_of was (Zero len) ++ xs) (same_samples ps from.1)
    same_samples (Given lo hi ∷ ps) from = search (rules, same_samples ps from.1)

    -- the first of the ids from here on
    first_made : (m id : ℕ) (b : NewBlock) (bs : List NewBlock) → b.id ≡ id
        → made_samples was (b ∷ bs) id ≡ all_samples was b.pieces
    first_made m id b bs is = search (rules, eq-eqb)

    -- what stands in front of some of the new blocks does not hide them
    abbrev Hides : ℕ → List NewBlock → Type 0
    Hides from bs = (id : ℕ) → from ≤ id → made_samples was all id ≡ made_samples was bs id

    hides_more : (from : ℕ) (b : NewBlock) (bs : List NewBlock) → b.id ≡ from → Hides from (b ∷ bs)
        → Hides (from + 1) bs
    hides_more from b bs is hides id least = search (rules, ne_eqb)

    written_from : (m from : ℕ) (bs : List NewBlock) → next ≤ from → AreNew m from bs → AllNewFrom old count bs
        → Hides from bs → AreWritten now bs
    written_from m from [] least fresh origin hides = tt
    written_from m from (b ∷ bs) least fresh origin hides =
        let xs : List ℤ = all_samples was b.pieces in
        let high : nat_lt b.id next ≡ false = le-ltb b.id next (omega (arith, fresh.0, least)) in
        let found : made_samples was all b.id ≡ xs =
        hides b.id (omega (arith, fresh.0)) ∙ first_made m b.id b bs refl in
        let at : supposed block given next all b.id ≡ (λ i. get_or xs i (pos 0)) =
        ap (λ (e : Bool). if e then block b.id else (λ i. get_or (made_samples was all b.id) i (pos 0))) high
        ∙ ap (λ (ys : List ℤ). λ i. get_or ys i (pos 0)) found in
        let long : length xs ≡ b.len = length-all_samples was b.pieces ∙ fresh.3 in
        let whole : stretch (supposed block given next all b.id) 0 b.len ≡ xs =
        ap (λ (f : ℕ → ℤ). stretch f 0 b.len) at ∙ ap (stretch (λ i. get_or xs i (pos 0)) 0) (sym long)
        ∙ stretch_list xs (pos 0) in (
          whole ∙ sym (same_samples b.pieces origin.0),
          written_from m (from + 1) bs (omega (arith, least)) fresh.5 origin.1 (hides_more from b bs fresh.0 hides),
        )

    pub supposed_written : (m : ℕ) → AreNew m next all → AllNewFrom old count all → AreWritten now all
    supposed_written m fresh origin = written_from m next all (omega arith) fresh origin (λ id least. refl)
