-- The samples of new blocks that are made one after another, of which it may not be known before they are read which come.
use Rattle.editor_blocks.proofs.Common.{rules, ◌≡◌, ◌⊎◌, inl, inr, ⊎_elim, ◌≤◌, ◌<◌, ℕ, ◌+◌, ℤ, Bool, true, false}
use Rattle.editor_blocks.proofs.Common.{IsTrue, List, [], ◌∷◌, length, take, get_or, Option, Some, None, refl, sym, ap}
use Rattle.editor_blocks.proofs.Common.{subst, ◌∙◌, arith, take_more, same_Some, Files, Ghosts, Fewer, Old, Scaled}
use Rattle.editor_blocks.proofs.Common.{Zero, Given, all_samples, Piece, blocks, sources_with, NewBlock, AreNew}
use Rattle.editor_blocks.proofs.Common.{AreWritten, AreInOrder, AllThere, IsThere, Core, AllInOrder, batch_of, MadeOne}
use Rattle.editor_blocks.proofs.Common.{Making, Written}
use Rattle.std.proofs.Common.{drop}
use Rattle.std.proofs.{lemmas.Bool.true≢false, lemmas.Bool.cases_eq, lemmas.List.drop_more}
use Rattle.block_writer.specs.Brought.{Brought, MayBring}
use Rattle.block_writer.specs.{Making.IsFilled}
use Rattle.block_writer.proofs.BringLaws.{any_brought, glue, glue_fits, glue_front, glue_rest, order_le, order_wider}
use Rattle.block_writer.proofs.BringLaws.{parts_same}
use Rattle.editor_blocks.proofs.{BlocksWritten.written_more, BlocksWritten.written_none, PieceOrder.order_append}

-- ---- one block

-- whether a disk has the blocks of some pieces is decided by its files
abbrev HasLength : Option (List ℤ) → ℕ → Type 0
HasLength block len = (samples : List ℤ) × (block ≡ Some samples) × (length samples ≡ len)

length_or : (block : Option (List ℤ)) (len : ℕ) → HasLength block len ⊎ (HasLength block len → ⊥)
length_or None len = search rules
length_or (Some xs) len = ⊎_elim
    (λ same. inl (xs, refl, same))
    (λ other. inr (λ has. other (ap (λ (ys : List ℤ). length ys) (same_Some xs has.0 has.1) ∙ has.2)))
    (cases_eq (length xs) len)

piece_or : (files : Files) (p : Piece) → IsThere files p ⊎ (IsThere files p → ⊥)
piece_or files (Old b from to) = length_or (blocks files b.id) b.len
piece_or files (Scaled b from to gain) = length_or (blocks files b.id) b.len
piece_or files (Zero len) = inl tt
piece_or files (Given from to) = inl tt

there_or : (files : Files) (ps : List Piece) → AllThere files ps ⊎ (AllThere files ps → ⊥)
there_or files [] = inl tt
there_or files (p ∷ ps) = ⊎_elim
    (λ one. ⊎_elim (λ more. inl (one, more)) (λ none. inr (λ all. none all.1)) (there_or files ps))
    (λ none. inr (λ all. none all.0))
    (piece_or files p)

-- the samples of a block that was made, whether or not its pieces are there
abbrev FilledBy : Bool → Files → List Piece → Option (List ℕ) → Option (List ℤ) → (ℕ → ℤ) → Type 0
FilledBy tells files ps before block given = IsTrue tells → AllThere files ps → before ≡ None
    → block ≡ Some (all_samples (sources_with files given) ps)

filled_vainly : (b : Brought) (tells : Bool) (files : Files) (ps : List Piece) (before : Option (List ℕ))
    (block : Option (List ℤ)) → (IsTrue tells → AllThere files ps → before ≡ None → ⊥)
    → (given : ℕ → ℤ) × MayBring b given × FilledBy tells files ps before block given
filled_vainly b tells files ps before block never =
    let any = any_brought b in (any.0, any.1, λ told there gone. absurd (never told there gone))

filled_there : (b : Brought) (files : Files) (ps : List Piece) (before : Option (List ℕ)) (block : Option (List ℤ))
    → AllThere files ps → (IsTrue true → AllThere files ps → before ≡ None → IsFilled b files ps block)
    → (given : ℕ → ℤ) × MayBring b given × FilledBy true files ps before block given
filled_there b files ps None block there by = search rules
filled_there b files ps (Some bytes) block there by =
    filled_vainly b true files ps (Some bytes) block (λ told there gone. some_gone bytes gone)
  where
    some_gone : (bytes : List ℕ) → Some bytes ≡ None → ⊥
    some_gone bytes e = cc

pub filled_by : (b : Brought) (tells : Bool) (files : Files) (ps : List Piece) (before : Option (List ℕ))
    (block : Option (List ℤ)) → (IsTrue tells → AllThere files ps → before ≡ None → IsFilled b files ps block)
    → (given : ℕ → ℤ) × MayBring b given × FilledBy tells files ps before block given
filled_by b false files ps before block by =
    filled_vainly b false files ps before block (λ told there gone. true≢false (sym told))
filled_by b true files ps before block by = ⊎_elim
    (λ there. filled_there b files ps before block there by)
    (λ none. filled_vainly b true files ps before block (λ told there gone. none there))
    (there_or files ps)

-- ---- one block after another

pub all_le : (low high : ℕ) (bs : List NewBlock) → AllInOrder low high bs → low ≤ high
all_le low high [] order = order
all_le low high (b ∷ bs) order =
    omega (arith, order_le low order.0 b.pieces order.1, all_le order.0 high bs order.2)

-- the first blocks are written by samples that agree with others up to a place
written_same : (files : Files) (f g : ℕ → ℤ) (low high : ℕ) (bs : List NewBlock) → AllInOrder low high bs
    → ((i : ℕ) → i < high → f i ≡ g i) → AreWritten (sources_with files f) bs → AreWritten (sources_with files g) bs
written_same files f g low high [] order same written = tt
written_same files f g low high (b ∷ bs) order same written =
    search (rules, parts_same, all_le, written_same files f g order.0 high bs order.2 same written.1)

-- the blocks so far, by samples that may be brought, and the place that the next one begins at
pub record IsBrought {D : Type 0} (disk : Ghosts D) (s : Core D) (b : Brought) (bs : List NewBlock) (n : ℕ) (new : Core D)
    : Type 0 where
  pub samples : ℕ → ℤ
  pub may : MayBring b samples
  pub written : Written disk s (batch_of samples bs) n new
  pub place : ℕ
  pub before : b.tells ≡ false → AllInOrder 0 place (take n bs)
  pub after : b.tells ≡ false → AllInOrder place b.count (drop n bs)

module _ {D : Type 0} (disk : Ghosts D) (s : Core D) (bs : List NewBlock) (n : ℕ) (new : Core D) where
  -- the same blocks by other samples, which agree with these on all that was read
  pub making_same : (f g : ℕ → ℤ) (place : ℕ) → AllInOrder 0 place (take n bs) → ((i : ℕ) → i < place → f i ≡ g i)
      → Making disk s (batch_of f bs) n new → Making disk s (batch_of g bs) n new
  making_same f g place order same making = search (rules, written_same)

  pub written_by_others : (f g : ℕ → ℤ) (place : ℕ) → AllInOrder 0 place (take n bs)
      → ((i : ℕ) → i < place → f i ≡ g i) → Written disk s (batch_of f bs) n new → Written disk s (batch_of g bs) n new
  written_by_others f g place order same was = search (rules, making_same)

-- the next block by other samples, which agree with these on what was read for it
pub one_same : {D : Type 0} (disk : Ghosts D) (old new : Core D) (f g : ℕ → ℤ) (low high : ℕ) (b : NewBlock)
    → AreInOrder low high b.pieces → ((i : ℕ) → low ≤ i → i < high → f i ≡ g i) → MadeOne disk old f b new
    → MadeOne disk old g b new
one_same disk old new f g low high b order same one = search (rules, parts_same)

-- samples that agree with some before a place, and with others from there on
pub both_may : (b : Brought) (f g : ℕ → ℤ) (place : ℕ) → b.tells ≡ false → MayBring b f → MayBring b g
    → MayBring b (glue place f g)
both_may b f g place e first second = search (rules, true≢false, glue_fits)

-- none is made yet
pub brought_none : {D : Type 0} (disk : Ghosts D) (s : Core D) (b : Brought) (bs : List NewBlock) → Fewer disk s.store
    → (b.tells ≡ false → AllInOrder 0 b.count bs) → IsBrought disk s b bs 0 s
brought_none disk s b bs fewer order =
    let any = any_brought b in record {
      samples = any.0;
      may = any.1;
      written = written_none disk s any.0 bs fewer;
      place = 0;
      before = λ quiet. omega arith;
      after = order;
    }

-- the order of the next block
pub next_order : {D : Type 0} (disk : Ghosts D) (s : Core D) (b : Brought) (bs : List NewBlock) (n : ℕ) (d : NewBlock)
    (mid : Core D) → n < length bs → IsBrought disk s b bs n mid → b.tells ≡ false
    → AreInOrder 0 b.count (get_or bs n d).pieces
next_order disk s b bs n d mid lt was quiet =
    let rest = subst (AllInOrder was.place b.count) (drop_more bs n d lt) (was.after quiet) in
    order_wider was.place rest.0 0 b.count (get_or bs n d).pieces (omega arith)
    (all_le rest.0 b.count (drop (n + 1) bs) rest.2) rest.1

module _ {D : Type 0} (disk : Ghosts D) (s : Core D) (b : Brought) (bs : List NewBlock) (n : ℕ) (d : NewBlock)
    (mid new : Core D) (lt : n < length bs) (fresh : AreNew s.block_size s.next_block bs)
    (was : IsBrought disk s b bs n mid) (g : ℕ → ℤ) (may : MayBring b g) (one : MadeOne disk mid g (get_or bs n d) new) where
  abbrev f : ℕ → ℤ
  f = was.samples

  more_by : (t : Bool) → b.tells ≡ t → IsBrought disk s b bs (n + 1) new
  more_by true e =
      let same : g ≡ f = may.known e ∙ sym (was.may.known e) in record {
        samples = f;
        may = was.may;
        written = written_more disk s f bs n d mid new lt fresh was.written
            (subst (λ (h : ℕ → ℤ). MadeOne disk mid h (get_or bs n d) new) same one);
        place = 0;
        before = λ quiet. absurd (true≢false (sym e ∙ quiet));
        after = λ quiet. absurd (true≢false (sym e ∙ quiet));
      }
  more_by false e =
      let x = get_or bs n d in
      let rest = subst (AllInOrder was.place b.count) (drop_more bs n d lt) (was.after e) in
      let both = glue was.place f g in
      let first = written_by_others disk s bs n mid f both was.place (was.before e)
      (λ i less. sym (glue_front was.place f g i less)) was.written in
      let next = one_same disk mid new g both was.place rest.0 x rest.1
      (λ i low high. sym (glue_rest was.place f g i low)) one in
      record {
        samples = both;
        may = both_may b f g was.place e was.may may;
        written = written_more disk s both bs n d mid new lt fresh first next;
        place = rest.0;
        before = λ quiet. subst (AllInOrder 0 rest.0) (sym (take_more bs n d lt))
            (order_append 0 was.place rest.0 (take n bs) (x ∷ []) (was.before e) (rest.0, rest.1, omega arith));
        after = λ quiet. rest.2;
      }

  -- one block more
  pub brought_more : IsBrought disk s b bs (n + 1) new
  brought_more = more_by b.tells refl
