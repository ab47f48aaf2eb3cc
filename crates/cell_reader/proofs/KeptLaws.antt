-- Pages that are there: of the same entries, of fewer cells, and of what comes after.
use Rattle.cell_reader.proofs.Common.{◌≡◌, ◌∙◌, ℕ, ◌+◌, ◌≤◌, List, [], ◌∷◌, ◌++◌, refl, arith, BlockRef, Clip, Entries}
use Rattle.cell_reader.proofs.Common.{HasSamples, same_none, View, HasBlocks, HasClips, blocks_len, subst}
use Rattle.std.proofs.Common.{true}
use Rattle.block_cache.specs.Caches.{SameCache}
use Rattle.block_cache.proofs.{CacheLaws.same_turn, HitLaws.samples_next}
use Rattle.cell_reader.specs.{Kept.HasBlock, Kept.HasSeen}

-- samples of a part
pub samples_part : (a b : Entries) (block : BlockRef) (from n at m : ℕ) → SameCache a b → from ≤ at
    → at + m ≤ from + n → HasSamples a block from n → HasSamples b block at m
samples_part a b block from n at m same low high has = λ i after before.
    samples_next a b block from n i same has (omega (arith, low, after)) (omega (arith, high, before))

-- what is there is so of the same entries
pub block_on : (a b : Entries) (view : View) (at : ℕ) (x : BlockRef) → SameCache a b → HasBlock a view at x
    → HasBlock b view at x
block_on a b view at x same has = λ i low high. samples_next a b x _ _ i same has low high

pub blocks_on : (a b : Entries) (view : View) (at : ℕ) (xs : List BlockRef) → SameCache a b → HasBlocks a view at xs
    → HasBlocks b view at xs
blocks_on a b view at [] same has = tt
blocks_on a b view at (x ∷ xs) same has =
    (block_on a b view at x same has.0, blocks_on a b view (at + x.len) xs same has.1)

pub clips_on : (a b : Entries) (view : View) (cs : List Clip) → SameCache a b → HasClips a view cs → HasClips b view cs
clips_on a b view [] same has = tt
clips_on a b view (c ∷ cs) same has =
    (blocks_on a b view c.start c.blocks same has.0, clips_on a b view cs same has.1)

pub seen_on : (a b : Entries) (from to : ℕ) (cs : List Clip) → SameCache a b → HasSeen a from to cs
    → HasSeen b from to cs
seen_on a b from to cs same has = clips_on a b (record { from = from; to = to }) cs same has

-- a view that another has all of
block_part : (a : Entries) (v w : View) (at : ℕ) (x : BlockRef) → v.from ≤ w.from → w.to ≤ v.to → HasBlock a v at x
    → HasBlock a w at x
block_part a v w at x low high has = λ i after before.
    has i (omega (arith, low, after)) (omega (arith, low, high, after, before))

blocks_part : (a : Entries) (v w : View) (at : ℕ) (xs : List BlockRef) → v.from ≤ w.from → w.to ≤ v.to
    → HasBlocks a v at xs → HasBlocks a w at xs
blocks_part a v w at [] low high has = tt
blocks_part a v w at (x ∷ xs) low high has =
    (block_part a v w at x low high has.0, blocks_part a v w (at + x.len) xs low high has.1)

clips_part : (a : Entries) (v w : View) (cs : List Clip) → v.from ≤ w.from → w.to ≤ v.to → HasClips a v cs
    → HasClips a w cs
clips_part a v w [] low high has = tt
clips_part a v w (c ∷ cs) low high has =
    (blocks_part a v w c.start c.blocks low high has.0, clips_part a v w cs low high has.1)

pub seen_part : (a : Entries) (from to at end : ℕ) (cs : List Clip) → from ≤ at → end ≤ to → HasSeen a from to cs
    → HasSeen a at end cs
seen_part a from to at end cs low high has =
    clips_part a (record { from = from; to = to }) (record { from = at; to = end }) cs low high has

-- the blocks before others, and those after
pub blocks_front : (a : Entries) (view : View) (at : ℕ) (xs ys : List BlockRef) → HasBlocks a view at (xs ++ ys)
    → HasBlocks a view at xs
blocks_front a view at [] ys has = tt
blocks_front a view at (x ∷ xs) ys has = (has.0, blocks_front a view (at + x.len) xs ys has.1)

pub blocks_back : (a : Entries) (view : View) (at : ℕ) (xs ys : List BlockRef) → HasBlocks a view at (xs ++ ys)
    → HasBlocks a view (at + blocks_len xs) ys
blocks_back a view at [] ys has =
    let e : at ≡ at + 0 = omega arith in
    subst (λ n. HasBlocks a view n ys) e has
blocks_back a view at (x ∷ xs) ys has =
    let e : at + x.len + blocks_len xs ≡ at + blocks_len (x ∷ xs) = omega arith in
    subst (λ n. HasBlocks a view n ys) e (blocks_back a view (at + x.len) xs ys has.1)

-- the clips after others
pub kept_back : (a : Entries) (view : View) (front more : List Clip) → HasClips a view (front ++ more)
    → HasClips a view more
kept_back a view [] more has = has
kept_back a view (c ∷ cs) more has = kept_back a view cs more has.1

-- no read at all
pub hits_none : {D P : Type 0} {s : D} {a : Entries} → P → (true ≡ true) × (s ≡ s) × SameCache a a
hits_none has = (refl, refl, same_none _)

-- reads, and then others, where all pages of both are there
pub hits_then : {D P Q R X Y : Type 0} {s t u : D} {a b c : Entries} → (R → P) → (R → SameCache a b → Q)
    → (P → X × (t ≡ s) × SameCache a b) → (Q → Y × (u ≡ t) × SameCache b c) → R → Y × (u ≡ s) × SameCache a c
hits_then first second f g has =
    let one = f (first has) in
    let two = g (second has one.2) in
    (two.0, two.1 ∙ one.1, same_turn _ _ _ one.2 two.2)
