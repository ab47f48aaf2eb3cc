-- Tracks that are read together.
use Rattle.mix_reader.proofs.Common.{ℤ, ◌≡◌, ℕ, zero, suc, ◌+◌, ◌-◌, ◌*◌, ◌≤◌, ◌<◌, Bool, false, List, [], ◌∷◌, ◌++◌, length}
use Rattle.mix_reader.proofs.Common.{take, drop, map, get_or, refl, sym, ap, subst, ◌∙◌, arith, if◌then◌else◌, Sources}
use Rattle.mix_reader.proofs.Common.{Cell, Files, layout_blocks, Track, meant_track, AllNamed, IsRestOf, stored_of}
use Rattle.mix_reader.proofs.Common.{IsStretch, drop-drop, length-set}
use Rattle.std.proofs.Common.{pos, length-append, ap₂, ⊎_elim}
use Rattle.std.proofs.lemmas.List.{drop-take, get_or-append_right, get_or-map, get_or_append_left, length-replicate}
use Rattle.std.proofs.lemmas.List.{drop-set, length-map, take-append-drop, take-take}
use Rattle.std.proofs.lemmas.{Bool.cases_lt}
use Rattle.std.specs.{Prelude.Contains, Prelude.replicate, Int.w16, Int.cast_signed}
use Rattle.pcm_base.specs.{declared.block.BlockRef.BlockRef, Pieces.stretch, Blocks.block_samples, Mix.heard_of}
use Rattle.pcm_base.proofs.Pieces.{length-stretch}
use Rattle.pcm_base.specs.declared.sound.Cell.TheVariants.{Gap, Sample}
use Rattle.clip_track.specs.declared.clips.Clip.{Clip}
use Rattle.clip_track.specs.Clips.{cells_from, layout_cells}
use Rattle.sample_block.specs.{Faults.number_at, Faults.samples_in}
use Rattle.sample_block.proofs.Laws.{get_samples}
use Rattle.disk_model.specs.{Disk.bytes_of, declared.parts.Part.Part, Parts.AreParts, Parts.filled}
use Rattle.disk_model.specs.Parts.{part_samples, samples_from}
use Rattle.disk_model.proofs.Buffers.{filled_at, length_part}
use Rattle.cell_reader.specs.{declared.rest.TrackRest.TrackRest, Kept.HasBlocks, Kept.left_blocks}
use Rattle.mixdown.specs.Stretches.{heard_sample}
use Rattle.mix_reader.specs.{declared.plans.Run.Run, Plans.ArePlans, Plans.ArePut, Plans.IsAlone, Plans.IsPlan}
use lib.ListN.{set}
use Rattle.pcm_base.specs.Cells as cells

-- ---- one block has the cells of a stretch

stretch_at : (f : ℕ → ℤ) (from n k : ℕ) (d : ℤ) → k < n → get_or (stretch f from n) k d ≡ f (from + k)
stretch_at f from zero k d lt = absurd (omega (arith, lt))
stretch_at f from (suc n) zero d lt = let e : from ≡ from + 0 = omega arith in ap f e
stretch_at f from (suc n) (suc k) d lt =
    let e : suc from + k ≡ from + suc k = omega arith in
    stretch_at f (suc from) n k d (omega (arith, lt)) ∙ ap f e

-- a sample of the first block after some gaps
first_cell : (n i j m : ℕ) (f : ℕ → ℤ) (ys : List ℤ) (more : List Cell) → i ≡ n + j → j < m
    → get_or (replicate n Gap ++ map Sample (stretch f 0 m ++ ys) ++ more) i Gap ≡ Sample (f j)
first_cell n i j m f ys more is lt =
    let gaps : List Cell = replicate n Gap in
    let xs : List ℤ = stretch f 0 m ++ ys in
    let long : length (stretch f 0 m) ≡ m = length-stretch f 0 m in
    let size : j < length xs = omega (arith, lt, long, length-append (stretch f 0 m) ys) in
    let many : i < length (gaps ++ map Sample xs) =
    omega (arith, is, size, length-append gaps (map Sample xs), length-replicate n Gap, length-map xs Sample) in
    let k : i - n ≡ j = omega (arith, is) in
    let l : 0 + j ≡ j = omega arith in
    get_or_append_left (gaps ++ map Sample xs) more Gap i many
    ∙ get_or-append_right gaps (map Sample xs) n i Gap (length-replicate n Gap) (omega (arith, is))
    ∙ ap (λ (a : ℕ). get_or (map Sample xs) a Gap) k
    ∙ get_or-map Sample xs j (pos 0) Gap size
    ∙ ap Sample (get_or_append_left (stretch f 0 m) ys (pos 0) j (omega (arith, lt, long))
    ∙ stretch_at f 0 m j (pos 0) lt ∙ ap f l)

-- the first block of what is left of a track
pub first_alone : (from len : ℕ) (cs : List Clip) (r : TrackRest) (b : BlockRef) (bs : List BlockRef) (skip : ℕ)
    → IsRestOf from cs r → left_blocks r ≡ b ∷ bs → r.start ≤ from → skip ≡ from - r.start → skip + len ≤ b.len
    → IsAlone from len cs b skip
first_alone from len cs r b bs skip is first low at fits = record {
  named = (subst (λ (xs : List BlockRef). AllNamed xs) first is.rest.named).0;
  among = is.blocks b (subst (λ (xs : List BlockRef). Contains (xs ++ layout_blocks r.clips.now) b) (sym first)
      (0, omega arith, refl));
  within = fits;
  cells = λ src k lt.
      let later : from ≤ from + k = omega arith in
      let F : List BlockRef → Cell = λ xs.
      get_or (replicate (r.start - r.at) Gap ++ map Sample (block_samples src xs) ++ cells_from src r.end r.clips.now)
      (from + k - r.at) Gap in
      sym (is.cells src (from + k) later) ∙ ap F first
      ∙ first_cell (r.start - r.at) (from + k - r.at) (skip + k) b.len (src.block b.id) (block_samples src bs)
      (cells_from src r.end r.clips.now) (omega (arith, at, low, is.rest.later)) (omega (arith, fits, lt));
  pages = λ c has i above below.
      let kept = is.kept c from (from + len) has in
      let blocks = subst (λ (xs : List BlockRef). HasBlocks c (record { from = from; to = from + len }) r.start xs)
      first kept.0 in
      blocks.0 i (omega (arith, above, at)) (omega (arith, below, at, low, fits));
}

-- it alone is among others
one_at : (b d : BlockRef) (more : List BlockRef) (k : ℕ) → Contains more b → k < 1 → get_or (b ∷ []) k d ≡ d
    → Contains more d
one_at b d more zero has lt is = subst (λ (x : BlockRef). Contains more x) is has
one_at b d more (suc k) has lt is = absurd (omega arith)

pub one_among : (b : BlockRef) (more : List BlockRef) → Contains more b → (d : BlockRef) → Contains (b ∷ []) d
    → Contains more d
one_among b more has d there = one_at b d more there.0 has there.1 there.2

-- ---- its samples are what is heard

from_in : (bytes : List ℕ) (at n : ℕ) → samples_from bytes at n ≡ samples_in bytes at n
from_in bytes at zero = refl
from_in bytes at (suc n) = ap (λ (xs : List ℤ). cast_signed w16 (number_at bytes at 2) ∷ xs) (from_in bytes (at + 2) n)

-- of one block, as of a part of it
alone_stretch : (from len : ℕ) (t : Track) (b : BlockRef) (skip : ℕ) (p : Part) → t.mute ≡ false
    → IsAlone from len t.layout b skip → p.file ≡ b.id → p.at ≡ 16 + 2 * skip → p.len ≡ len
    → (files : Files) → IsStretch from len (meant_track (stored_of files) t) (part_samples files p)
alone_stretch from len t b skip p loud is file at size files k lt =
    let bytes : List ℕ = bytes_of (files b.id) in
    let same : part_samples files p ≡ samples_in bytes (16 + 2 * skip) len =
    ap (λ (n : ℕ). samples_from (bytes_of (files n)) p.at p.len) file
    ∙ ap (λ (n : ℕ). samples_from bytes n p.len) at ∙ ap (samples_from bytes (16 + 2 * skip)) size
    ∙ from_in bytes (16 + 2 * skip) len in
    let place : 16 + 2 * skip + 2 * k ≡ 16 + 2 * (skip + k) = omega arith in
    let heard : Cell = get_or (layout_cells (stored_of files) t.layout) (from + k) Gap in
    ap (λ (xs : List ℤ). get_or xs k (pos 0)) same ∙ get_samples bytes (16 + 2 * skip) len k (pos 0) lt
    ∙ ap (λ (n : ℕ). cast_signed w16 (number_at bytes n 2)) place
    ∙ sym (ap heard_of (is.cells (stored_of files) k lt))
    ∙ sym (ap (λ (m : Bool). if m then pos 0 else heard_of heard) loud)

-- a stretch, and the one after it
stretch_more : (from m n len : ℕ) (t : cells.Track) (xs ys : List ℤ) → length xs ≡ m → m + n ≡ len
    → IsStretch from m t xs → IsStretch (from + m) n t ys → IsStretch from len t (xs ++ ys)
stretch_more from m n len t xs ys size all is next k lt = ⊎_elim
    (λ (here : k < m). get_or_append_left xs ys (pos 0) k (omega (arith, here, size)) ∙ is k here)
    (λ (there : m ≤ k).
    let place : from + m + (k - m) ≡ from + k = omega (arith, there) in
    get_or-append_right xs ys m k (pos 0) size there ∙ next (k - m) (omega (arith, lt, all, there))
    ∙ ap (heard_sample t) place)
    (cases_lt k m)

-- parts of two runs are those of the track
pub runs_plan : (from len : ℕ) (t : Track) (first second : Run) (p q : Part) (at : ℕ) → t.mute ≡ false
    → IsAlone from first.len t.layout first.block first.skip
    → IsAlone (from + first.len) second.len t.layout second.block second.skip → first.len + second.len ≡ len
    → p ≡ record { file = first.block.id; at = 16 + 2 * first.skip; to = at; len = first.len }
    → q ≡ record { file = second.block.id; at = 16 + 2 * second.skip; to = at + first.len; len = second.len }
    → IsPlan from len t p q
runs_plan from len t first second p q at loud one two all is next some =
    let size : p.len ≡ first.len = ap (λ (x : Part). x.len) is in
    let more : q.len ≡ second.len = ap (λ (x : Part). x.len) next in (
      omega (arith, size, more, all),
      omega (arith, ap (λ (x : Part). x.to) is, ap (λ (x : Part). x.to) next, size),
      λ files. stretch_more from first.len second.len len (meant_track (stored_of files) t) (part_samples files p)
          (part_samples files q) (length_part files p ∙ size) all
          (alone_stretch from first.len t first.block first.skip p loud one (ap (λ (x : Part). x.file) is)
          (ap (λ (x : Part). x.at) is) size files)
          (alone_stretch (from + first.len) second.len t second.block second.skip q loud two
          (ap (λ (x : Part). x.file) next) (ap (λ (x : Part). x.at) next) more files),
    )

-- ---- parts of tracks

-- none of any samples
pub parts_none : (n to : ℕ) (p : Part) → p.len ≡ 0 → p.at ≡ 0 → p.to ≡ to → AreParts to to (replicate n p)
parts_none zero to p len at is = omega arith
parts_none (suc n) to p len at is =
    let next : to ≡ p.to + p.len = omega (arith, len, is) in (
      omega (arith, is),
      omega (arith, len, at),
      subst (λ (k : ℕ). AreParts k to (replicate n p)) next (parts_none n to p len at is),
    )

-- those of one track among others
pub two_set : (ps : List Part) (k i : ℕ) (p q : Part) → k + 1 ≡ i → 2 * i ≤ length ps
    → drop (2 * k) (set (set ps (2 * k + 1) q) (2 * k) p) ≡ p ∷ q ∷ drop (2 * i) ps
two_set ps k i p q next fits =
    let place : 2 * k + 1 + 1 ≡ 2 * i = omega (arith, next) in
    drop-set (set ps (2 * k + 1) q) (2 * k) p (omega (arith, next, fits, length-set ps (2 * k + 1) q))
    ∙ ap (λ (qs : List Part). p ∷ qs) (drop-set ps (2 * k + 1) q (omega (arith, next, fits))
    ∙ ap (λ (n : ℕ). q ∷ drop n ps) place)

-- what stands at two places, one after the other
two_slots : (m n len a b : ℕ) (xs : List ℤ) → m + n ≡ len → b ≡ a + m
    → take len (drop a xs) ≡ take m (drop a xs) ++ take n (drop b xs)
two_slots m n len a b xs all next =
    let zs : List ℤ = take (m + n) (drop a xs) in
    ap (λ (k : ℕ). take k (drop a xs)) (sym all) ∙ sym (take-append-drop m zs)
    ∙ ap (λ (ys : List ℤ). ys ++ drop m zs) (take-take m (m + n) (drop a xs) (omega arith))
    ∙ ap (λ (ys : List ℤ). take m (drop a xs) ++ ys) (drop-take m n (drop a xs)
    ∙ ap (take n) (drop-drop m a xs ∙ ap (λ (k : ℕ). drop k xs) (sym next)))

-- what stands at the places of parts is what is heard of the tracks
each_put : (files : Files) (from len : ℕ) (ts : List Track) (ps : List Part) (xs : List ℤ)
    → ((k : ℕ) (d : Part) → k < length ps
    → take (get_or ps k d).len (drop (get_or ps k d).to xs) ≡ part_samples files (get_or ps k d))
    → ArePlans from len ts ps → ArePut (stored_of files) from len ts ps xs
each_put files from len [] ps xs each are = tt
each_put files from len (t ∷ ts) [] xs each are = tt
each_put files from len (t ∷ ts) (p ∷ []) xs each are = absurd are
each_put files from len (t ∷ ts) (p ∷ q ∷ ps) xs each are = (
  λ some.
      let plan = are.0 some in
      let here : take len (drop p.to xs) ≡ part_samples files p ++ part_samples files q =
      two_slots p.len q.len len p.to q.to xs plan.0 plan.1
      ∙ ap₂ (λ (ys zs : List ℤ). ys ++ zs) (each 0 p (omega arith)) (each 1 q (omega arith)) in
      subst (λ (ys : List ℤ). IsStretch from len (meant_track (stored_of files) t) ys) (sym here) (plan.2 files),
  each_put files from len ts ps xs (λ k d lt. each (suc (suc k)) d (omega (arith, lt))) are.1,
)

pub put_filled : (files now : Files) (from len room : ℕ) (ts : List Track) (ps : List Part) (out xs : List ℤ)
    → now ≡ files → AreParts 0 room ps → length out ≡ room → xs ≡ filled files ps out → ArePlans from len ts ps
    → ArePut (stored_of now) from len ts ps xs
put_filled files now from len room ts ps out xs same are size is plans =
    let P : Files → Type 0 = λ f. ArePut (stored_of f) from len ts ps xs in
    subst P (sym same) (each_put files from len ts ps xs
    (λ k d lt. ap (λ (ys : List ℤ). take (get_or ps k d).len (drop (get_or ps k d).to ys)) is
    ∙ filled_at files ps 0 room k d out are (omega (arith, size)) lt) plans)

pub put_none : (src : Sources) (from len : ℕ) (ts : List Track) (xs : List ℤ) → ArePut src from len ts [] xs
put_none src from len [] xs = tt
put_none src from len (t ∷ ts) xs = tt

-- of one of the tracks
pub put_row : (src : Sources) (from len k : ℕ) (ts us : List Track) (t : Track) (ps : List Part) (d : Part)
    (xs : List ℤ) → drop k ts ≡ t ∷ us → ArePut src from len ts ps xs → 2 * k < length ps
    → 0 < (get_or ps (2 * k) d).len
    → IsStretch from len (meant_track src t) (take len (drop (get_or ps (2 * k) d).to xs))
put_row src from len zero [] us t ps d xs e put lt some = absurd cc
put_row src from len (suc k) [] us t ps d xs e put lt some = absurd cc
put_row src from len k (u ∷ ts) us t [] d xs e put lt some = absurd (omega (arith, lt))
put_row src from len zero (u ∷ ts) us t (p ∷ ps) d xs e put lt some =
    let same : u ≡ t = cc in
    subst (λ (v : Track). IsStretch from len (meant_track src v) (take len (drop p.to xs))) same (put.0 some)
put_row src from len (suc k) (u ∷ ts) us t (p ∷ []) d xs e put lt some = absurd (omega (arith, lt))
put_row src from len (suc k) (u ∷ ts) us t (p ∷ q ∷ ps) d xs e put lt some =
    let next : suc (suc (2 * k)) ≡ 2 * suc k = omega arith in
    let P : ℕ → Type 0 = λ n. 0 < (get_or (p ∷ q ∷ ps) n d).len
    → IsStretch from len (meant_track src t) (take len (drop (get_or (p ∷ q ∷ ps) n d).to xs)) in
    subst P next (put_row src from len k ts us t ps d xs e put.1 (omega (arith, lt))) some

-- what stands before a place in two buffers that are the same up to it
pub slot_same : (a len end : ℕ) (xs ys : List ℤ) → a + len ≡ end → take end xs ≡ take end ys
    → take len (drop a xs) ≡ take len (drop a ys)
slot_same a len end xs ys is same =
    sym (drop-take a len xs) ∙ ap (λ (n : ℕ). drop a (take n xs)) is ∙ ap (drop a) same
    ∙ ap (λ (n : ℕ). drop a (take n ys)) (sym is) ∙ drop-take a len ys

pub front_same : (a end : ℕ) (xs ys zs : List ℤ) → a ≤ end → take a xs ≡ take a ys → take end ys ≡ take end zs
    → take a xs ≡ take a zs
front_same a end xs ys zs le one two =
    one ∙ sym (take-take a end ys le) ∙ ap (take a) two ∙ take-take a end zs le
