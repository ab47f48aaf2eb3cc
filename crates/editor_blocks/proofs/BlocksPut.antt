-- Blocks that are put one after another change nothing of those that are there.
use Rattle.editor_blocks.proofs.Common.{rules, ◌≡◌, ℕ, zero, suc, ◌+◌, ◌≤◌, ◌<◌, ◌⊎◌, inl, inr, ⊎_elim, ℤ, pos, List}
use Rattle.editor_blocks.proofs.Common.{[], ◌∷◌, ◌++◌, length, get_or, take, Option, Some, None, refl, sym, ap}
use Rattle.editor_blocks.proofs.Common.{ap₂, subst, ◌∙◌, arith, take_more, cases_lt, AllByRecursion, Old, Scaled, Zero}
use Rattle.editor_blocks.proofs.Common.{Given, Sources, stretch, samples_of, all_samples, total, BlockRef, Piece}
use Rattle.editor_blocks.proofs.Common.{length-all_samples, stretch_list, Files, SameElsewhere, blocks, sources_with}
use Rattle.editor_blocks.proofs.Common.{IsWhole, NewBlock, AreWritten, AreNew, ref_of, IsThere, AllThere, AreAbsent}
use Rattle.editor_blocks.proofs.Common.{AreMade, PiecesThere, SameOutside, batch_of, ids_from}
use Rattle.std.proofs.Common.{◌≢◌}
use Rattle.std.specs.{Prelude.unwrap_or}
use Rattle.sample_block.specs.{Sources.samples_on}
use Rattle.sample_block.proofs.BlockLaws.{blocks_have}
use Rattle.editor_state.proofs.Blocks.BlockSounds.{same_whole}

-- a file that is absent is not that of a block
not_absent : (files : Files) (id : ℕ) (b : BlockRef) → files id ≡ None → IsWhole files b → b.id ≢ id
not_absent files id b gone whole = search (rules, blocks_have)

same_on : (files files' : Files) (id from n : ℕ) → files' id ≡ files id
    → stretch (samples_on files' id) from n ≡ stretch (samples_on files id) from n
same_on files files' id from n e = ap (λ (o : Option (List ℕ)). stretch (samples_on (λ _. o) id) from n) e

-- all samples of a block
all_stretch : (files : Files) (id n : ℕ) (xs : List ℤ) → blocks files id ≡ Some xs → length xs ≡ n
    → stretch (samples_on files id) 0 n ≡ xs
all_stretch files id n xs e long =
    ap (λ (o : Option (List ℤ)). stretch (λ i. get_or (unwrap_or o []) i (pos 0)) 0 n) e
    ∙ ap (stretch (λ i. get_or xs i (pos 0)) 0) (sym long) ∙ stretch_list xs (pos 0)

-- a new file changes nothing of a piece whose block is there
module _ (given : ℕ → ℤ) (id : ℕ) (files files' : Files) (same : SameElsewhere id files files')
    (gone : files id ≡ None) where
  abbrev old : Sources
  old = sources_with files given

  abbrev now : Sources
  now = sources_with files' given

  at_file : (b : BlockRef) → IsWhole files b → files' b.id ≡ files b.id
  at_file b whole = same b.id (not_absent files id b gone whole)

  samples_kept : (p : Piece) → IsThere files p → samples_of now p ≡ samples_of old p
  samples_kept (Old b from to) there = same_on files files' b.id from _ (at_file b there)
  samples_kept (Scaled b from to gain) there = search (rules, same_on, at_file)
  samples_kept (Zero len) there = refl
  samples_kept (Given from to) there = refl

  all_samples_kept : (ps : List Piece) → AllThere files ps → all_samples now ps ≡ all_samples old ps
  all_samples_kept [] there = refl
  all_samples_kept (p ∷ ps) there = ap₂ ◌++◌ (samples_kept p there.0) (all_samples_kept ps there.1)

  -- new blocks that are whole stay written
  written_kept : (bs : List NewBlock) → AllByRecursion (λ b. IsWhole files (ref_of b)) bs → PiecesThere files bs
      → AreWritten old bs → AreWritten now bs
  written_kept [] whole there written = tt
  written_kept (b ∷ bs) whole there written =
      search (rules, same_on, at_file, all_samples_kept, written_kept bs whole.1 there.1 written.1)

  all_whole_kept : (bs : List NewBlock) → AllByRecursion (λ b. IsWhole files (ref_of b)) bs
      → AllByRecursion (λ b. IsWhole files' (ref_of b)) bs
  all_whole_kept [] whole = tt
  all_whole_kept (b ∷ bs) whole = search (rules, same_whole, at_file, all_whole_kept bs whole.1)

  -- what was put is written
  written_now : (b : NewBlock) → AllThere files b.pieces → total b.pieces ≡ b.len
      → blocks files' b.id ≡ Some (all_samples old b.pieces)
      → (stretch (samples_on files' b.id) 0 b.len ≡ all_samples now b.pieces) × IsWhole files' (ref_of b)
  written_now b there len stored = search (rules, length-all_samples, all_stretch, all_samples_kept)

-- ---- facts of each, of a list and one more

written-append : (src : Sources) (bs : List NewBlock) (b : NewBlock) → AreWritten src bs
    → stretch (src.block b.id) 0 b.len ≡ all_samples src b.pieces → AreWritten src (bs ++ b ∷ [])
written-append src [] b all one = (one, tt)
written-append src (x ∷ bs) b all one = (all.0, written-append src bs b all.1 one)

each-append : (P : NewBlock → Type 0) (bs : List NewBlock) (b : NewBlock) → AllByRecursion P bs → P b
    → AllByRecursion P (bs ++ b ∷ [])
each-append P [] b all one = (one, tt)
each-append P (x ∷ bs) b all one = (all.0, each-append P bs b all.1 one)

each-take : (P : NewBlock → Type 0) (n : ℕ) (bs : List NewBlock) → AllByRecursion P bs → AllByRecursion P (take n bs)
each-take P zero bs all = tt
each-take P (suc n) [] all = tt
each-take P (suc n) (b ∷ bs) all = (all.0, each-take P n bs all.1)

each_at : (P : NewBlock → Type 0) (bs : List NewBlock) (i : ℕ) (d : NewBlock) → i < length bs → AllByRecursion P bs
    → P (get_or bs i d)
each_at P [] i d lt all = absurd (omega arith)
each_at P (b ∷ bs) zero d lt all = all.0
each_at P (b ∷ bs) (suc i) d lt all = each_at P bs i d (omega arith) all.1

-- the id and the size of each new block of a plan
pub record IsNewAt (m next i : ℕ) (b : NewBlock) : Type 0 where
  pub id : b.id ≡ next + i
  pub some : 0 < b.len
  pub few : b.len ≤ m
  pub total : total b.pieces ≡ b.len

pub new_at : (m next : ℕ) (bs : List NewBlock) (i : ℕ) (d : NewBlock) → i < length bs → AreNew m next bs
    → IsNewAt m next i (get_or bs i d)
new_at m next [] i d lt new = absurd (omega arith)
new_at m next (b ∷ bs) zero d lt new = record { id = new.0 ∙ omega arith; some = new.1; few = new.2; total = new.3 }
new_at m next (b ∷ bs) (suc i) d lt new = search (rules, new_at m (next + 1) bs i d (omega arith) new.5)

-- ---- what the disk has of the pieces while the first blocks are made

outside : (next n : ℕ) (old : Files) → AreAbsent next n old → (b : BlockRef) → IsWhole old b
    → (b.id < next) ⊎ (next + n ≤ b.id)
outside next n old gone b whole = search (rules, not_absent, cases_lt)

module _ (next n : ℕ) (old new : Files) (same : SameOutside next n old new) (gone : AreAbsent next n old) where
  outside_there : (p : Piece) → IsThere old p → IsThere new p
  outside_there (Old b from to) there = same_whole old new b (same b.id (outside next n old gone b there)) there
  outside_there (Scaled b from to gain) there = same_whole old new b (same b.id (outside next n old gone b there)) there
  outside_there (Zero len) there = tt
  outside_there (Given from to) there = tt

  outside_all : (ps : List Piece) → AllThere old ps → AllThere new ps
  outside_all [] there = tt
  outside_all (p ∷ ps) there = (outside_there p there.0, outside_all ps there.1)

  outside_pieces : (bs : List NewBlock) → PiecesThere old bs → PiecesThere new bs
  outside_pieces [] there = tt
  outside_pieces (b ∷ bs) there = (outside_all b.pieces there.0, outside_pieces bs there.1)

module _ (given : ℕ → ℤ) (m next n : ℕ) (bs : List NewBlock) (d : NewBlock) (old mid : Files)
    (lt : n < length bs) (fresh : AreNew m next bs) (gone : AreAbsent next (length bs) old) (there : PiecesThere old bs)
    (made : AreMade (batch_of given bs) (ids_from next n) old mid) where
  abbrev b : NewBlock
  b = get_or bs n d

  still : PiecesThere mid bs
  still = outside_pieces next n old mid made.same (λ f low high. gone f low (omega (arith, high, lt))) bs there

  -- before the next block is made its pieces are there, and it is absent
  pub next_there : AllThere mid b.pieces
  next_there = each_at (λ x. AllThere mid x.pieces) bs n d lt still

  pub next_absent : mid b.id ≡ None
  next_absent = search (rules, new_at, inr, made.same)

  -- one new block more is made
  pub made_more : (new : Files) → SameElsewhere b.id mid new
      → blocks new b.id ≡ Some (all_samples (sources_with mid given) b.pieces)
      → AreMade (batch_of given bs) (ids_from next (n + 1)) old new
  made_more new same stored =
      let is = new_at m next bs n d lt fresh in
      let first : PiecesThere mid (take n bs) = each-take (λ x. AllThere mid x.pieces) n bs still in
      let now = written_now given b.id mid new same next_absent b next_there is.total stored in
      let e : take (n + 1) bs ≡ take n bs ++ b ∷ [] = take_more bs n d lt in
      let src = sources_with new given in
      let W : NewBlock → Type 0 = λ x. IsWhole new (ref_of x) in
      let whole = all_whole_kept given b.id mid new same next_absent (take n bs) made.whole in
      let written =
      written_kept given b.id mid new same next_absent (take n bs) made.whole first made.written in
      record {
        same = λ f apart.
            let other : f ≢ b.id = λ at. ⊎_elim (λ low. absurd (omega (arith, low, at, is.id)))
            (λ high. absurd (omega (arith, high, at, is.id))) apart in
            same f other ∙ made.same f (⊎_elim (λ low. inl low) (λ high. inr (omega (arith, high))) apart);
        written = subst (AreWritten src) (sym e) (written-append src (take n bs) b written now.0);
        whole = subst (AllByRecursion W) (sym e) (each-append W (take n bs) b whole now.1);
      }

-- none is made yet
pub made_none : (given : ℕ → ℤ) (next : ℕ) (bs : List NewBlock) (files : Files)
    → AreMade (batch_of given bs) (ids_from next 0) files files
made_none given next bs files = record { same = λ f apart. refl; written = tt; whole = tt }
