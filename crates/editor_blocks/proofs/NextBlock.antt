-- The next block of some that are made.
use Rattle.editor_blocks.proofs.Common.{ℤ, ◌≡◌, inl, refl, sym, ◌∙◌, subst, ℕ, ◌+◌, ◌^◌, ◌≤◌, ◌<◌, IsTrue}
use Rattle.editor_blocks.proofs.Common.{IsSome, Option, Some, None, List, length, get_or, arith, same_Some, total}
use Rattle.editor_blocks.proofs.Common.{Refusal, Ghosts, Counts, NewBlock, AreNew, AllThere, AddsFree, IsDamageAmong}
use Rattle.editor_blocks.proofs.Common.{IsOfDevices, Making, NotMade, Stuck, Core, AreAbsent, PiecesThere, batch_of}
use Rattle.editor_blocks.proofs.Common.{rules}
use Rattle.std.proofs.Common.{slice_get}
use Rattle.std.proofs.lemmas.Option.{slice_get-get_or}
use Rattle.sample_block.specs.Spelling.{IsBlock}
use Rattle.editor_blocks.proofs.BlocksPut.{new_at, next_there}

-- ---- the next block of some

pub item : (bs : List NewBlock) (n : ℕ) (b d : NewBlock) → n < length bs → slice_get bs n ≡ Some b → get_or bs n d ≡ b
item bs n b d lt here = same_Some (get_or bs n d) b (sym (slice_get-get_or bs n d lt) ∙ here)

pub none_where : {A : Type 0} (o : Option A) → (IsSome o → ⊥) → o ≡ None
none_where None h = refl
none_where (Some n) h = absurd (h refl)

-- the next block has this id, these lengths and pieces that fill it
pub record IsReady (m next n : ℕ) (b : NewBlock) : Type 0 where
  pub id : b.id ≡ next + n
  pub block : IsBlock b.id b.len
  pub total : total b.pieces ≡ b.len
  pub few : b.len ≤ m

pub ready_item : (m next n : ℕ) (bs : List NewBlock) (b : NewBlock) → n < length bs → slice_get bs n ≡ Some b
    → AreNew m next bs → 16 ≤ next
    → next + length bs ≤ 2 ^ 62 → m ≤ 262144 → IsReady m next n b
ready_item m next n bs b lt here fresh least most size =
    let is = new_at m next bs n b lt fresh in
    subst (IsReady m next n) (item bs n b b lt here) (record {
      id = is.id;
      block = record {
        id_low = omega (arith, is.id, least);
        id_high = omega (arith, is.id, most, lt);
        some = omega (arith, is.some);
        few = omega (arith, is.few, size);
      };
      total = is.total;
      few = is.few;
    })

-- the ledger does not have the next id
pub fresh_next : (next n : ℕ) (old mid : Counts) (id : ℕ) → AddsFree next n old mid
    → ((k : ℕ) → IsSome (old k) → k < next) → id ≡ next + n → mid id ≡ None
fresh_next next n old mid id was below is = search (rules, none_where, was.ids)

module _ {D : Type 0} (disk : Ghosts D) (s : Core D) (given : ℕ → ℤ) (bs : List NewBlock) (n : ℕ) (mid : Core D)
    (was : Making disk s (batch_of given bs) n mid)
    (lt : n < length bs) (fresh : AreNew s.block_size s.next_block bs) (b : NewBlock)
    (here : slice_get bs n ≡ Some b) where
  -- where the disk has the blocks of all pieces, those of the next block are there still
  pub pieces_still : IsTrue (disk.tells s.store) → PiecesThere (disk.reads s.store) bs
      → AreAbsent s.next_block (length bs) (disk.reads s.store) → AllThere (disk.reads mid.store) b.pieces
  pieces_still told there gone =
      subst (λ (x : NewBlock). AllThere (disk.reads mid.store) x.pieces) (item bs n b b lt here)
      (next_there given s.block_size s.next_block n bs b (disk.reads s.store)
      (disk.reads mid.store) lt fresh gone there (was.made told there gone))

  -- the next block was not made
  pub stuck_here : (why : Refusal) (new : Core D) → disk.read_fault_count mid.store ≡ disk.read_fault_count s.store
      → NotMade disk mid why new
      → (IsTrue (disk.tells mid.store) → AllThere (disk.reads mid.store) b.pieces → IsOfDevices why)
      → (IsTrue (disk.tells mid.store) → IsDamageAmong (disk.reads mid.store) b.pieces why)
      → Stuck disk s (batch_of given bs) why new
  stuck_here why new reads by valid damaged = record {
    made = n;
    few = omega (arith, lt);
    mid = mid;
    before = was;
    read_faults = reads;
    by = by;
    left = inl lt;
    block = b;
    stands = (n, lt, item bs n b b lt here);
    damaged = damaged;
    valid = λ told there gone. valid (subst IsTrue (sym was.changed.tells) told) (pieces_still told there gone);
  }
