-- What a view has of cells that stand from a place on.
use Rattle.cell_reader.proofs.Common.{◌≡◌, ℕ, zero, suc, ◌+◌, ◌-◌, ◌≤◌, min, ℤ, get_or, List, [], ◌∷◌, ◌++◌, length}
use Rattle.cell_reader.proofs.Common.{map, take, refl, sym, ap, ap₂, ◌∙◌, arith, length-append, append_assoc}
use Rattle.cell_reader.proofs.Common.{append-nil, take-put_mid, length-map, map-append, Contains, replicate, Files}
use Rattle.cell_reader.proofs.Common.{BlockFault, samples_on, IsWhole, AllNamed, AllWhole, BlockRef, Cell, Gap, part}
use Rattle.cell_reader.proofs.Common.{stretch, length-part, View, place_in, Puts}
use Rattle.std.proofs.Common.{pos, Option, Some}
use Rattle.std.specs.Prelude.{unwrap_or}
use Rattle.block_store.specs.{Reads.IsFaultIn}
use Rattle.sample_block.specs.{Blocks.blocks, Spelling.size_of}
use Rattle.block_store.proofs.{FaultLaws.block_valid}
use Rattle.pcm_base.proofs.{Pieces.stretch_list, ListFacts.each_at}
use Rattle.cell_reader.proofs.PartLists.{part-append, part-empty, part-replicate}
use borrow.Rule.Slice.PartMut.{put_mid}
use Rattle.block_store.specs.declared.fault.BlockFault.TheVariants as fault

-- cells one after the other
pub puts_turn : {A : Type 0} (made : Cell → A) (view : View) (at : ℕ) (xs ys : List Cell) (old mid new : List A)
    → Puts made view at xs old mid → Puts made view (at + length xs) ys mid new → Puts made view at (xs ++ ys) old new
puts_turn made view at xs ys old mid new one two =
    let end : at + length (xs ++ ys) ≡ at + length xs + length ys = omega (arith, length-append xs ys) in
    let low : view.from - (at + length xs) ≡ view.from - at - length xs = omega arith in
    let high : view.to - (at + length xs) ≡ view.to - at - length xs = omega arith in
    let first : List Cell = part (view.from - at) (view.to - at) xs in
    let more : List Cell = part (view.from - (at + length xs)) (view.to - (at + length xs)) ys in
    ap (λ n. take (place_in view n) new) end ∙ two ∙ ap (λ zs. zs ++ map made more) one
    ∙ append_assoc (take (place_in view at) old) (map made first) (map made more)
    ∙ ap (λ zs. take (place_in view at) old ++ zs) (sym (map-append made first more)
    ∙ ap (map made) (ap₂ (λ a b. first ++ part a b ys) low high
    ∙ sym (part-append (view.from - at) (view.to - at) xs ys)))

-- no cell of these is seen
pub puts_none : {A : Type 0} (made : Cell → A) (view : View) (at n : ℕ) (xs : List Cell) (old : List A)
    → view.from ≤ view.to → length xs ≡ n → place_in view at ≡ place_in view (at + n) → Puts made view at xs old old
puts_none made view at n xs old order size same =
    let gone : part (view.from - at) (view.to - at) xs ≡ [] =
    part-empty (view.from - at) (view.to - at) xs (omega (arith, size, same)) in
    let end : place_in view (at + length xs) ≡ place_in view at = omega (arith, size, same) in
    ap (λ n. take n old) end ∙ sym (append-nil (take (place_in view at) old))
    ∙ ap (λ zs. take (place_in view at) old ++ map made zs) (sym gone)

-- what was put in its place
pub puts_mid : {A : Type 0} (made : Cell → A) (view : View) (at n k start : ℕ) (xs : List Cell) (ys old : List A)
    → view.from ≤ view.to → length xs ≡ n → start ≡ place_in view at → start ≤ length old
    → ys ≡ map made (part (view.from - at) (view.to - at) xs) → Puts made view at xs old (put_mid start k old ys)
puts_mid made view at n k start xs ys old order size place fits is =
    let seen : List Cell = part (view.from - at) (view.to - at) xs in
    let long = ap length is ∙ length-map seen made ∙ length-part (view.from - at) (view.to - at) xs in
    let end : place_in view (at + length xs) ≡ start + length ys = omega (arith, long, place) in
    take-put_mid start k old ys (place_in view (at + length xs)) end fits ∙ ap₂ (λ a zs. take a old ++ zs) place is

map_replicate : {A B : Type 0} (f : A → B) (n : ℕ) (x : A) → map f (replicate n x) ≡ replicate n (f x)
map_replicate f zero x = refl
map_replicate f (suc n) x = ap (λ ys. f x ∷ ys) (map_replicate f n x)

-- gaps
pub gap_part : {A : Type 0} (made : Cell → A) (view : View) (at n k : ℕ) → view.from ≤ view.to
    → k ≡ place_in view (at + n) - place_in view at
    → replicate k (made Gap) ≡ map made (part (view.from - at) (view.to - at) (replicate n Gap))
gap_part made view at n k order size =
    let e : k ≡ min n (view.to - at) - (view.from - at) = omega (arith, size) in
    ap (λ m. replicate m (made Gap)) e
    ∙ sym (ap (map made) (part-replicate (view.from - at) (view.to - at) n Gap)
    ∙ map_replicate made (min n (view.to - at) - (view.from - at)) Gap)

-- the samples of a block of the disk
pub block_whole : (files : Files) (b : BlockRef) (xs : List ℤ) → blocks files b.id ≡ Some xs → length xs ≡ b.len
    → stretch (samples_on files b.id) 0 b.len ≡ xs
block_whole files b xs is size =
    ap (λ (o : Option (List ℤ)). stretch (λ i. get_or (unwrap_or o []) i (pos 0)) 0 b.len) is
    ∙ ap (stretch (λ i. get_or xs i (pos 0)) 0) (sym size) ∙ stretch_list xs (pos 0)

-- the disk has all blocks, so none is at fault
pub valid_in : (files : Files) (bs : List BlockRef) (why : BlockFault) → AllWhole files bs → IsFaultIn files bs why
    → why ≡ fault.DiskFault
valid_in files bs why whole is =
    let b : BlockRef = is.0 in
    let here : IsWhole files b = each_at (IsWhole files) bs whole is.1.0 b is.1.1 is.1.2 in
    block_valid files b.id b.len (size_of b.len) here.0 why here.1 here.2 (omega arith) is.2

-- facts of each of two lists
pub whole_front : (files : Files) (bs cs : List BlockRef) → AllWhole files (bs ++ cs) → AllWhole files bs
whole_front files [] cs all = tt
whole_front files (b ∷ bs) cs all = (all.0, whole_front files bs cs all.1)

pub whole_back : (files : Files) (bs cs : List BlockRef) → AllWhole files (bs ++ cs) → AllWhole files cs
whole_back files [] cs all = all
whole_back files (b ∷ bs) cs all = whole_back files bs cs all.1

pub named_front : (bs cs : List BlockRef) → AllNamed (bs ++ cs) → AllNamed bs
named_front [] cs all = tt
named_front (b ∷ bs) cs all = (all.0, named_front bs cs all.1)

pub named_back : (bs cs : List BlockRef) → AllNamed (bs ++ cs) → AllNamed cs
named_back [] cs all = all
named_back (b ∷ bs) cs all = named_back bs cs all.1

pub fault_among : (files : Files) (bs more : List BlockRef) (why : BlockFault)
    → ((b : BlockRef) → Contains bs b → Contains more b) → IsFaultIn files bs why → IsFaultIn files more why
fault_among files bs more why among is = (is.0, among is.0 is.1, is.2)
