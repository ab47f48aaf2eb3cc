-- Reads of one block in turn, by what each gives.
use Rattle.envelope_view.proofs.Common.{◌≡◌, ◌∙◌, true, ℕ, ◌+◌, ◌-◌, ◌*◌, ◌^◌, ◌≤◌, ◌<◌, ℤ, List, length, take, drop}
use Rattle.envelope_view.proofs.Common.{Some, Result, Ok, Err, min, refl, sym, ap, subst, arith, fold, Files, Ghosts}
use Rattle.envelope_view.proofs.Common.{BlockRef, blocks, BlockFault, Level, frame_len, Short, Long, BlockReader}
use Rattle.envelope_view.proofs.Common.{Entries, HasFrames, HasSamples, SameCache, same_none, reads_err}
use Rattle.envelope_view.proofs.Common.{reads_none, reads_ok, reads_then, told_on, Summary, AreSamples, frame_count}
use Rattle.envelope_view.proofs.Common.{frames_of, joined, nothing, summary_of, HasPart, false≢true}
use Rattle.std.specs.Prelude.{IfOk, IsErrAnd}
use Rattle.disk_model.proofs.Frames.{Fewer, tells_back}
use Rattle.pcm_base.proofs.Exits.{after_err}
use Rattle.block_cache.proofs.CacheLaws.{same_turn}
use Rattle.block_cache.proofs.ReaderLaws.{there_on}
use Rattle.envelope_view.specs.{Parts.OfBlock, Parts.ReadsBlock, Parts.Sums, Parts.SumsFrames}
use Rattle.envelope_view.proofs.KeptLaws.{part_frames, part_in, part_on, part_samples}
use Rattle.envelope_view.proofs.SumLaws.{block_samples_few, block_samples_fit, frames_read, part_end, part_joined}
use Rattle.envelope_view.proofs.SumLaws.{stop_same}
use Rattle.std.proofs.{lemmas.Result.IfOk-weaker}

-- samples that a block has
pub record AreOf (b : BlockRef) (xs : List ℤ) : Type 0 where
  pub fit : AreSamples xs
  pub few : length xs ≤ 2 ^ 32
  pub len : length xs ≡ b.len

both : {T P : Type 0} (Q : T → Type 0) (r : Result T BlockFault) → P → IfOk r Q → IfOk r (λ y. P × Q y)
both Q (Ok y) p q = (p, q)
both Q (Err e) p q = tt

frames_some : (l : Level) → 0 < frame_len l
frames_some Short = omega arith
frames_some Long = omega arith

-- those of frames of a part
front_pages : (a : Entries) (l : Level) (b : BlockRef) (first end to : ℕ) → first ≤ end
    → frame_len l * end < to + frame_len l → HasPart a b (frame_len l * first) to → HasFrames a l b first (end - first)
front_pages a l b first end to rising near has =
    let e : end ≡ first + (end - first) = omega (arith, rising) in
    part_frames a l b (frame_len l * first) to first (end - first) (omega arith)
    (subst (λ (k : ℕ). frame_len l * k < to + frame_len l) e near) has

-- no read at all
pub hits_none : {D P : Type 0} {s : D} {a : Entries} → P → (true ≡ true) × (s ≡ s) × SameCache a a
hits_none has = (refl, refl, same_none _)

-- reads, and then others, where all pages of both are there
pub hits_then : {D P Q R X Y : Type 0} {s t u : D} {a b c : Entries} → (R → P) → (R → SameCache a b → Q)
    → (P → X × (t ≡ s) × SameCache a b) → (Q → Y × (u ≡ t) × SameCache b c) → R → Y × (u ≡ s) × SameCache a c
hits_then first second f g has =
    let one = f (first has) in
    let two = g (second has one.2) in
    (two.0, two.1 ∙ one.1, same_turn _ _ _ one.2 two.2)

module _ {D : Type 0} {disk : Ghosts D} where
  pub block_none : {T : Type 0} {b : BlockRef} {has : Entries → Type 0} {is : List ℤ → T → Type 0}
      {a : BlockReader D disk} (x : T) → Fewer disk a.store → OfBlock a b (λ xs. is xs x)
      → ReadsBlock b has is a a (Ok x)
  block_none x fewer is = record { reads = reads_none x fewer; hit = hits_none; read = is }

  -- another value, made of that of a read
  pub block_ok : {T U : Type 0} {b : BlockRef} {has more : Entries → Type 0} {is : List ℤ → T → Type 0}
      {what : List ℤ → U → Type 0} {a c : BlockReader D disk} {x : T} {y : U} → ReadsBlock b has is a c (Ok x)
      → (more a.cache → has a.cache) → ((xs : List ℤ) → AreOf b xs → is xs x → what xs y)
      → ReadsBlock b more what a c (Ok y)
  block_ok {b = b} {a = a} f among made = record {
    reads = reads_ok f.reads;
    hit = λ all. let got = f.hit (among all) in (refl, got.1, got.2);
    read = λ told xs e len. made xs (record {
      fit = block_samples_fit (disk.reads a.store) b.id xs e;
      few = block_samples_few (disk.reads a.store) b.id xs e;
      len = len;
    }) (f.read told xs e len);
  }

  -- the error of a read, by a `?`
  pub block_err : {T U : Type 0} {b : BlockRef} {has more : Entries → Type 0} {is : List ℤ → T → Type 0}
      {what : List ℤ → U → Type 0} {a c : BlockReader D disk} {why : BlockFault} (r : Result U BlockFault)
      → IsErrAnd r (λ e. e ≡ why) → ReadsBlock b has is a c (Err why) → (more a.cache → has a.cache)
      → ReadsBlock b more what a c r
  block_err {U = U} {b = b} {more = more} {what = what} {a = a} {c = c} {why = why} r same f among =
      let failed : ReadsBlock b more what a c (Err why) = record {
        reads = reads_err f.reads;
        hit = λ all. absurd (false≢true (f.hit (among all)).0);
        read = λ told xs e len. tt;
      } in
      after_err (λ (q : Result U BlockFault). ReadsBlock b more what a c q) why r same failed

  -- a read, and then another of the same block with this answer
  pub block_then : {T U : Type 0} {b : BlockRef} {has next : Entries → Type 0} {is : List ℤ → T → Type 0}
      {what : List ℤ → U → Type 0} {a m c : BlockReader D disk} {x : T} {r : Result U BlockFault}
      (more : Entries → Type 0)
      → ReadsBlock b has is a m (Ok x) → ReadsBlock b next what m c r
      → (more a.cache → has a.cache) → (more a.cache → SameCache a.cache m.cache → next m.cache)
      → ReadsBlock b more (λ xs y. is xs x × what xs y) a c r
  block_then {b = b} {is = is} {what = what} {x = x} {r = r} more f g first second = record {
    reads = reads_then f.reads g.reads;
    hit = hits_then first second f.hit g.hit;
    read = λ told xs e len. both (what xs) r (f.read told xs e len)
        (g.read (told_on f.reads told) xs (there_on b.id f.reads e) len);
  }

  -- what is so of the samples beside
  pub block_also : {T : Type 0} {b : BlockRef} {has : Entries → Type 0} {also : List ℤ → Type 0}
      {is : List ℤ → T → Type 0} {a c : BlockReader D disk} (r : Result T BlockFault) → OfBlock a b also
      → ReadsBlock b has is a c r → ReadsBlock b has (λ xs x. also xs × is xs x) a c r
  block_also {is = is} r known f = record {
    reads = f.reads;
    hit = f.hit;
    read = λ told xs e len. both (is xs) r (known told xs e len) (f.read told xs e len);
  }

  -- the same reads by a weaker word of them
  pub block_weaker : {T : Type 0} {b : BlockRef} {has more : Entries → Type 0} {is what : List ℤ → T → Type 0}
      {a c : BlockReader D disk} (r : Result T BlockFault) → ReadsBlock b has is a c r → (more a.cache → has a.cache)
      → ((xs : List ℤ) → AreOf b xs → (x : T) → is xs x → what xs x) → ReadsBlock b more what a c r
  block_weaker {b = b} {is = is} {what = what} {a = a} r f among made = record {
    reads = f.reads;
    hit = λ all. f.hit (among all);
    read = λ told xs e len. IfOk-weaker r (is xs) (what xs) (made xs (record {
      fit = block_samples_fit (disk.reads a.store) b.id xs e;
      few = block_samples_few (disk.reads a.store) b.id xs e;
      len = len;
    })) (f.read told xs e len);
  }

  -- reads of two parts of a block, both within one
  pub two_parts : {T U : Type 0} {b : BlockRef} {p q k l : ℕ} {is : List ℤ → T → Type 0} {what : List ℤ → U → Type 0}
      {a m c : BlockReader D disk} {x : T} {r : Result U BlockFault} (from to : ℕ)
      → ReadsBlock b (λ e. HasPart e b p q) is a m (Ok x) → ReadsBlock b (λ e. HasPart e b k l) what m c r
      → from ≤ p → q ≤ to → from ≤ k → l ≤ to
      → ReadsBlock b (λ e. HasPart e b from to) (λ xs y. is xs x × what xs y) a c r
  two_parts {b = b} {p = p} {q = q} {k = k} {l = l} {a = a} {m = m} from to f g low high next_low next_high =
      block_then (λ (e : Entries). HasPart e b from to) f g (part_in a.cache b from to p q low high)
      (λ has same. part_on a.cache m.cache b from to k l same next_low next_high has)

  -- a part, and then samples after it
  pub samples_next : {T U : Type 0} {b : BlockRef} {q k : ℕ} (n : ℕ) {is : List ℤ → T → Type 0} {what : List ℤ → U →
      Type 0}
      {a m c : BlockReader D disk} {x : T} {r : Result U BlockFault} (from to : ℕ)
      → ReadsBlock b (λ e. HasPart e b from q) is a m (Ok x) → ReadsBlock b (λ e. HasSamples e b k n) what m c r
      → from ≤ k → q ≤ to → k + n ≤ to
      → ReadsBlock b (λ e. HasPart e b from to) (λ xs y. is xs x × what xs y) a c r
  samples_next {b = b} {q = q} {k = k} n {a = a} {m = m} from to f g low high within =
      block_then (λ (e : Entries). HasPart e b from to) f g (part_in a.cache b from to from q (omega arith) high)
      (λ has same. part_samples m.cache b from to k n low within
      (part_on a.cache m.cache b from to from to same (omega arith) (omega arith) has))

  -- after a read, what was so of the samples before it and what it gave
  pub on_back : {T : Type 0} {b : BlockRef} {has : Entries → Type 0} {is : List ℤ → T → Type 0} {was then : List ℤ →
      Type 0}
      {a c : BlockReader D disk} {x : T} → ReadsBlock b has is a c (Ok x)
      → ((xs : List ℤ) → AreOf b xs → was xs → is xs x → then xs) → OfBlock a b was → OfBlock c b then
  on_back {b = b} {a = a} f made before = λ told xs e len.
      let kept = f.reads.kept in
      let back = tells_back kept told in
      let there : blocks (disk.reads a.store) b.id ≡ Some xs =
      ap (λ (files : Files). blocks files b.id) (sym kept.same_reads) ∙ e in
      made xs (record {
        fit = block_samples_fit (disk.reads a.store) b.id xs there;
        few = block_samples_few (disk.reads a.store) b.id xs there;
        len = len;
      }) (before back xs there len) (f.read back xs there len)

  -- the summary of a part, and of what is after it
  pub sums_then : {b : BlockRef} {from mid to : ℕ} {a m c : BlockReader D disk} {s t : Summary} (z : Summary)
      → from ≤ mid → mid ≤ to → z ≡ joined s t → Sums b from mid mid a m (Ok s) → Sums b mid to to m c (Ok t)
      → Sums b from to to a c (Ok z)
  sums_then {b = b} {from = from} {mid = mid} {to = to} {a = a} {m = m} {s = s} {t = t} z low high is f g =
      block_ok (two_parts from to f g (omega arith) high low (omega arith)) (λ has. has)
      (λ xs of got. is ∙ part_joined from mid to xs s t of.fit of.few low high got.0 got.1)

  -- where one of the two failed
  pub sums_err : {b : BlockRef} {from mid to : ℕ} {a c : BlockReader D disk} {why : BlockFault}
      (r : Result Summary BlockFault) → IsErrAnd r (λ e. e ≡ why) → mid ≤ to → Sums b from mid mid a c (Err why)
      → Sums b from to to a c r
  sums_err {b = b} {from = from} {mid = mid} {to = to} {a = a} r same high f = block_err r same f
      (part_in a.cache b from to from mid (omega arith) high)

  pub sums_then_err : {b : BlockRef} {from mid to : ℕ} {a m c : BlockReader D disk} {s : Summary} {why : BlockFault}
      (r : Result Summary BlockFault) → IsErrAnd r (λ e. e ≡ why) → from ≤ mid → mid ≤ to
      → Sums b from mid mid a m (Ok s) → Sums b mid to to m c (Err why) → Sums b from to to a c r
  sums_then_err {b = b} {from = from} {mid = mid} {to = to} {a = a} {m = m} r same low high f g =
      block_err r same (two_parts from to f g (omega arith) high low (omega arith)) (λ has. has)

  -- frames that were joined
  pub frames_sum : {b : BlockRef} (l : Level) {first end : ℕ} {a c : BlockReader D disk} (r : Result Summary BlockFault)
      → first ≤ end → end ≤ frame_count (frame_len l) b.len
      → ReadsBlock b (λ e. HasFrames e l b first (end - first))
      (λ xs s. s ≡ fold joined nothing (take (end - first) (drop first (frames_of (frame_len l) xs)))) a c r
      → SumsFrames b l first end a c r
  frames_sum {b = b} l {first = first} {end = end} r rising within f =
      block_weaker r f (λ has. has) (λ xs of s is.
      frames_read (frame_len l) first end xs s of.fit of.few rising
      (subst (λ (n : ℕ). end ≤ frame_count (frame_len l) n) (sym of.len) within) is)

  -- where frames failed
  pub frames_err : {b : BlockRef} (l : Level) {first end : ℕ} {a c : BlockReader D disk} {why : BlockFault} (to : ℕ)
      (r : Result Summary BlockFault) → IsErrAnd r (λ e. e ≡ why) → first ≤ end
      → frame_len l * end < to + frame_len l → SumsFrames b l first end a c (Err why)
      → Sums b (frame_len l * first) to to a c r
  frames_err {b = b} l {first = first} {end = end} {a = a} to r same rising near f =
      block_err r same f (front_pages a.cache l b first end to rising near)

  -- frames up to a place, or to the end of the block where that comes first
  pub frames_front : {b : BlockRef} (l : Level) {first end : ℕ} {a c : BlockReader D disk} (at to : ℕ)
      (r : Result Summary BlockFault) → first ≤ end → at ≡ min to (frame_len l * end)
      → frame_len l * end < to + frame_len l → (to < frame_len l * end → to ≡ b.len) → to ≤ b.len
      → SumsFrames b l first end a c r → Sums b (frame_len l * first) at at a c r
  frames_front {b = b} l {first = first} {end = end} {a = a} at to r rising is near last within f =
      block_weaker r f
      (front_pages a.cache l b first end at rising (omega (arith, is, near, frames_some l)))
      (λ xs of s got. got ∙ ap summary_of (part_end (frame_len l * first) (frame_len l * end) at xs
      (stop_same (frame_len l * end) to b.len at (length xs) is last within of.len)))

  pub part_frames_next : {S T : Type 0} {b : BlockRef} {q first : ℕ} (n : ℕ) {is : List ℤ → S → Type 0}
      {mid : List ℤ → T → Type 0} {a l m : BlockReader D disk} {x : S} {r : Result T BlockFault} (from to : ℕ)
      → ReadsBlock b (λ e. HasPart e b from q) is a l (Ok x) → ReadsBlock b (λ e. HasFrames e Long b first n) mid l m r
      → q ≤ to → from ≤ 65536 * first → 65536 * (first + n) < to + 65536
      → ReadsBlock b (λ e. HasPart e b from to) (λ xs y. is xs x × mid xs y) a m r
  part_frames_next {b = b} {q = q} {first = first} n {a = a} {l = l} from to f g high low near =
      block_then (λ (e : Entries). HasPart e b from to) f g (part_in a.cache b from to from q (omega arith) high)
      (λ has same. part_frames l.cache Long b from to first n low near
      (part_on a.cache l.cache b from to from to same (omega arith) (omega arith) has))

  -- a part, then long frames from its end or before it on, and then a part
  pub three_reads : {S T U : Type 0} {b : BlockRef} {q first k : ℕ} (n : ℕ) {is : List ℤ → S → Type 0}
      {mid : List ℤ → T → Type 0} {what : List ℤ → U → Type 0} {a l m c : BlockReader D disk} {x : S} {y : T}
      {r : Result U BlockFault} (from to : ℕ)
      → ReadsBlock b (λ e. HasPart e b from q) is a l (Ok x) → ReadsBlock b (λ e. HasFrames e Long b first n) mid l m
      (Ok y)
      → ReadsBlock b (λ e. HasPart e b k to) what m c r
      → q ≤ to → from ≤ 65536 * first → 65536 * (first + n) < to + 65536 → from ≤ k
      → ReadsBlock b (λ e. HasPart e b from to) (λ xs z. (is xs x × mid xs y) × what xs z) a c r
  three_reads {b = b} {q = q} {first = first} {k = k} n {a = a} {l = l} {m = m} from to f g h high low near next =
      block_then (λ (e : Entries). HasPart e b from to)
      (part_frames_next n from to f g high low near) h (λ has. has)
      (λ has same. part_on a.cache m.cache b from to k to same next (omega arith) has)
