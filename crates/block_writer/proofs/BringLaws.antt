-- The samples that a command brings, of which it may not be known before they are read which they are.
use Rattle.std.proofs.Common.{◌≡◌, ℕ, zero, suc, ◌+◌, ◌-◌, ◌≤◌, ◌<◌, ℤ, pos, Bool, true, false, IsTrue, List, [], ◌∷◌}
use Rattle.std.proofs.Common.{◌++◌, length, get_or, All, FitsSigned, refl, sym, ap, ap₂, subst, ◌∙◌, arith}
use Rattle.std.proofs.Common.{append_assoc, take, inl, inr}
use Rattle.std.proofs.{lemmas.Bool.true≢false, lemmas.Bool.cases_lt, lemmas.List.get_or_past}
use Rattle.std.specs.Int.{w16}
use Rattle.disk_model.specs.Disk.{Files}
use Rattle.sample_block.specs.Sources.{sources_with}
use Rattle.pcm_base.specs.declared.piece.Piece.TheVariants.{Old, Scaled, Zero, Given}
use Rattle.pcm_base.specs.{declared.piece.Piece.Piece, Pieces.stretch, Pieces.samples_of, Pieces.all_samples}
use Rattle.pcm_base.proofs.Pieces.{stretch_list}
use Rattle.block_writer.specs.Brought.{Brought, MayBring, LiesBetween, AreInOrder}
use Rattle.block_writer.specs.Making.{IsPart, AreParts}

-- ---- samples that may be brought

abbrev is_known : Bool → (ℕ → ℤ) → ℕ → ℤ
is_known true f i = f i
is_known false f i = pos 0

zero_fits : FitsSigned w16 (pos 0)
zero_fits = omega arith

known_front : (t : Bool) (f : ℕ → ℤ) → t ≡ true → is_known t f ≡ f
known_front true f e = refl
known_front false f e = absurd (true≢false (sym e))

known_fits : (t : Bool) (f : ℕ → ℤ) → t ≡ false → (i : ℕ) → FitsSigned w16 (is_known t f i)
known_fits true f e i = absurd (true≢false e)
known_fits false f e i = zero_fits

-- some samples may be brought
pub any_brought : (b : Brought) → (given : ℕ → ℤ) × MayBring b given
any_brought b = (
  is_known b.tells b.samples,
  record {
    known = known_front b.tells b.samples;
    fit = known_fits b.tells b.samples;
  },
)

-- a piece that is no part of them has its samples whichever they are
pub old_part : (b : Brought) (files : Files) (p : Piece) (xs : List ℤ)
    → ((given : ℕ → ℤ) → xs ≡ samples_of (sources_with files given) p) → IsPart b files p xs
old_part b files p xs is =
    let any = any_brought b in record { given = any.0; may = any.1; is = is any.0 }

-- ---- samples that are read

-- a list as the samples from a place on
abbrev moved_list : (xs : List ℤ) (from : ℕ) → ℕ → ℤ
moved_list xs from i = get_or xs (i - from) (pos 0)

pub moved_stretch : (f g : ℕ → ℤ) (from to n : ℕ) → ((k : ℕ) → k < n → f (from + k) ≡ g (to + k))
    → stretch f from n ≡ stretch g to n
moved_stretch f g from to zero same = refl
moved_stretch f g from to (suc n) same =
    let a : from + 0 ≡ from = omega arith in
    let b : to + 0 ≡ to = omega arith in
    let head : f from ≡ g to = sym (ap f a) ∙ same 0 (omega arith) ∙ ap g b in
    let next : (k : ℕ) → k < n → f (suc from + k) ≡ g (suc to + k) = λ k lt.
    let c : suc from + k ≡ from + suc k = omega arith in
    let d : to + suc k ≡ suc to + k = omega arith in
    ap f c ∙ same (suc k) (omega (arith, lt)) ∙ ap g d in
    ap₂ (λ (x : ℤ) (xs : List ℤ). x ∷ xs) head (moved_stretch f g (suc from) (suc to) n next)

pub stretch_more : (f : ℕ → ℤ) (from m n : ℕ) → stretch f from (m + n) ≡ stretch f from m ++ stretch f (from + m) n
stretch_more f from zero n =
    let a : 0 + n ≡ n = omega arith in
    let b : from + 0 ≡ from = omega arith in
    ap (stretch f from) a ∙ sym (ap (λ (k : ℕ). stretch f k n) b)
stretch_more f from (suc m) n =
    let a : suc m + n ≡ suc (m + n) = omega arith in
    let b : suc from + m ≡ from + suc m = omega arith in
    ap (stretch f from) a ∙ ap (λ (xs : List ℤ). f from ∷ xs) (stretch_more f (suc from) m n
    ∙ ap (λ (k : ℕ). stretch f (suc from) m ++ stretch f k n) b)

list_stretch : (xs : List ℤ) (from : ℕ) → xs ≡ stretch (moved_list xs from) from (length xs)
list_stretch xs from = sym (moved_stretch (moved_list xs from) (λ i. get_or xs i (pos 0)) from 0 (length xs) (λ k lt.
    let e : from + k - from ≡ 0 + k = omega arith in
    ap (λ (i : ℕ). get_or xs i (pos 0)) e) ∙ stretch_list xs (pos 0))

list_fits : (xs : List ℤ) (from i : ℕ) → All (λ s. FitsSigned w16 s) xs → FitsSigned w16 (moved_list xs from i)
list_fits xs from i fit = elim (cases_lt (i - from) (length xs)) [
  | inl less ↦ fit (i - from) (pos 0) less
  | inr more ↦ subst (λ (s : ℤ). FitsSigned w16 s) (sym (get_or_past xs (i - from) (pos 0) more)) zero_fits
]

-- a part that was filled
filled_by : (b : Brought) (t : Bool) (files : Files) (from to : ℕ) (xs : List ℤ) → b.tells ≡ t → length xs ≡ to - from
    → (IsTrue b.tells → xs ≡ stretch b.samples from (to - from))
    → (b.tells ≡ false → All (λ s. FitsSigned w16 s) xs) → IsPart b files (Given from to) xs
filled_by b true files from to xs e len told fit = record {
  given = b.samples;
  may = record { known = λ h. refl; fit = λ h. absurd (true≢false (sym e ∙ h)) };
  is = told e;
}
filled_by b false files from to xs e len told fit = record {
  given = moved_list xs from;
  may = record { known = λ h. absurd (true≢false (sym h ∙ e)); fit = λ h i. list_fits xs from i (fit e) };
  is = list_stretch xs from ∙ ap (stretch (moved_list xs from) from) len;
}

pub filled_part : (b : Brought) (files : Files) (from to : ℕ) (xs : List ℤ) → length xs ≡ to - from
    → (IsTrue b.tells → xs ≡ stretch b.samples from (to - from))
    → (b.tells ≡ false → All (λ s. FitsSigned w16 s) xs) → IsPart b files (Given from to) xs
filled_part b files from to xs len told fit = filled_by b b.tells files from to xs refl len told fit

-- ---- pieces one after another

-- the samples of each piece, by samples of its own that may be brought
abbrev pub EachPart : Brought → Files → List Piece → List ℤ → Type 0
EachPart b files [] xs = xs ≡ []
EachPart b files (p ∷ ps) xs =
    (part : List ℤ) × (rest : List ℤ) × IsPart b files p part × EachPart b files ps rest × (xs ≡ part ++ rest)

-- the first samples of one list, and the others of another
abbrev pub glue : ℕ → (ℕ → ℤ) → (ℕ → ℤ) → ℕ → ℤ
glue zero f g i = g i
glue (suc n) f g zero = f zero
glue (suc n) f g (suc i) = glue n (λ k. f (suc k)) (λ k. g (suc k)) i

pub glue_front : (n : ℕ) (f g : ℕ → ℤ) (i : ℕ) → i < n → glue n f g i ≡ f i
glue_front zero f g i lt = absurd (omega arith)
glue_front (suc n) f g zero lt = refl
glue_front (suc n) f g (suc i) lt = glue_front n (λ k. f (suc k)) (λ k. g (suc k)) i (omega arith)

pub glue_rest : (n : ℕ) (f g : ℕ → ℤ) (i : ℕ) → n ≤ i → glue n f g i ≡ g i
glue_rest zero f g i le = refl
glue_rest (suc n) f g zero le = absurd (omega arith)
glue_rest (suc n) f g (suc i) le = glue_rest n (λ k. f (suc k)) (λ k. g (suc k)) i (omega arith)

pub glue_fits : (n : ℕ) (f g : ℕ → ℤ) → ((i : ℕ) → FitsSigned w16 (f i)) → ((i : ℕ) → FitsSigned w16 (g i)) → (i : ℕ)
    → FitsSigned w16 (glue n f g i)
glue_fits zero f g a b i = b i
glue_fits (suc n) f g a b zero = a zero
glue_fits (suc n) f g a b (suc i) =
    glue_fits n (λ k. f (suc k)) (λ k. g (suc k)) (λ k. a (suc k)) (λ k. b (suc k)) i

same_stretch : (f g : ℕ → ℤ) (from n : ℕ) → ((i : ℕ) → from ≤ i → i < from + n → f i ≡ g i)
    → stretch f from n ≡ stretch g from n
same_stretch f g from zero same = refl
same_stretch f g from (suc n) same = ap₂ (λ (x : ℤ) (xs : List ℤ). x ∷ xs) (same from (omega arith) (omega arith))
    (same_stretch f g (suc from) n (λ i low high. same i (omega arith) (omega arith)))

-- a part that lies between two places has the samples that stand there
part_same : (files : Files) (f g : ℕ → ℤ) (low high : ℕ) (p : Piece) → LiesBetween low high p
    → ((i : ℕ) → low ≤ i → i < high → f i ≡ g i)
    → samples_of (sources_with files f) p ≡ samples_of (sources_with files g) p
part_same files f g low high (Old b from to) lies same = refl
part_same files f g low high (Scaled b from to gain) lies same = refl
part_same files f g low high (Zero len) lies same = refl
part_same files f g low high (Given from to) lies same = elim (cases_lt from to) [
  | inl less ↦
      let both = lies less in
      same_stretch f g from (to - from) (λ i a b. same i (omega (arith, both.0)) (omega (arith, both.1, less)))
  | inr more ↦
      let none : to - from ≡ 0 = omega arith in
      ap (stretch f from) none ∙ sym (ap (stretch g from) none)
]

pub order_le : (low high : ℕ) (ps : List Piece) → AreInOrder low high ps → low ≤ high
order_le low high [] order = order
order_le low high (p ∷ ps) order =
    let rest = order_le order.0 high ps order.3 in omega (arith, order.1, rest)

pub parts_same : (files : Files) (f g : ℕ → ℤ) (low high : ℕ) (ps : List Piece) → AreInOrder low high ps
    → ((i : ℕ) → low ≤ i → i < high → f i ≡ g i)
    → all_samples (sources_with files f) ps ≡ all_samples (sources_with files g) ps
parts_same files f g low high [] order same = refl
parts_same files f g low high (p ∷ ps) order same =
    let mid = order.0 in
    let le = order_le mid high ps order.3 in
    ap₂ (λ (xs ys : List ℤ). xs ++ ys)
    (part_same files f g low mid p order.2 (λ i a b. same i a (omega (arith, b, le))))
    (parts_same files f g mid high ps order.3 (λ i a b. same i (omega (arith, a, order.1)) b))

-- where it is not known which samples come, those of all pieces are of one list, since no sample is read twice
each_in_order : (b : Brought) (files : Files) (low high : ℕ) (ps : List Piece) (xs : List ℤ) → b.tells ≡ false
    → AreInOrder low high ps → EachPart b files ps xs
    → (f : ℕ → ℤ) × ((i : ℕ) → FitsSigned w16 (f i)) × (xs ≡ all_samples (sources_with files f) ps)
each_in_order b files low high [] xs e order each = (λ _. pos 0, λ i. zero_fits, each)
each_in_order b files low high (p ∷ ps) xs e order each =
    let mid = order.0 in
    let part = each.0 in
    let rest = each.1 in
    let first = each.2 in
    let more = each_in_order b files mid high ps rest e order.3 each.3 in
    let f = glue mid first.given more.0 in
    let one : part ≡ samples_of (sources_with files f) p =
    first.is ∙ part_same files first.given f low mid p order.2
    (λ i a c. sym (glue_front mid first.given more.0 i c)) in
    let others : rest ≡ all_samples (sources_with files f) ps =
    more.2 ∙ parts_same files more.0 f mid high ps order.3
    (λ i a c. sym (glue_rest mid first.given more.0 i a)) in (
      f,
      glue_fits mid first.given more.0 (first.may.fit e) more.1,
      each.4 ∙ ap₂ (λ (ys zs : List ℤ). ys ++ zs) one others,
    )

each_known : (b : Brought) (files : Files) (ps : List Piece) (xs : List ℤ) → IsTrue b.tells → EachPart b files ps xs
    → xs ≡ all_samples (sources_with files b.samples) ps
each_known b files [] xs told each = each
each_known b files (p ∷ ps) xs told each =
    let first = each.2 in
    each.4 ∙ ap₂ (λ (ys zs : List ℤ). ys ++ zs)
    (first.is ∙ ap (λ (f : ℕ → ℤ). samples_of (sources_with files f) p) (first.may.known told))
    (each_known b files ps each.1 told each.3)

joined_by : (b : Brought) (t : Bool) (files : Files) (low high : ℕ) (ps : List Piece) (xs : List ℤ) → b.tells ≡ t
    → (b.tells ≡ false → AreInOrder low high ps) → EachPart b files ps xs → AreParts b files ps xs
joined_by b true files low high ps xs e order each = record {
  given = b.samples;
  may = record { known = λ h. refl; fit = λ h. absurd (true≢false (sym e ∙ h)) };
  is = each_known b files ps xs e each;
}
joined_by b false files low high ps xs e order each =
    let all = each_in_order b files low high ps xs e (order e) each in
    record {
      given = all.0;
      may = record { known = λ h. absurd (true≢false (sym h ∙ e)); fit = λ h. all.1 };
      is = all.2;
    }

pub joined_parts : (b : Brought) (files : Files) (low high : ℕ) (ps : List Piece) (xs : List ℤ)
    → (b.tells ≡ false → AreInOrder low high ps) → EachPart b files ps xs → AreParts b files ps xs
joined_parts b files low high ps xs order each = joined_by b b.tells files low high ps xs refl order each

-- one piece more of those that are read
pub each_more : (b : Brought) (files : Files) (done : ℕ) (out out' part : List ℤ) (p : Piece) (ps all : List Piece)
    → ((rest : List ℤ) → EachPart b files (p ∷ ps) rest → EachPart b files all (take done out ++ rest))
    → IsPart b files p part → out' ≡ take done out ++ part
    → (rest : List ℤ) → EachPart b files ps rest → EachPart b files all (out' ++ rest)
each_more b files done out out' part p ps all before is put rest each =
    subst (EachPart b files all)
    (sym (append_assoc (take done out) part rest) ∙ sym (ap (λ (xs : List ℤ). xs ++ rest) put))
    (before (part ++ rest) (part, rest, is, each, refl))

-- the order of a part of some places, in more of them
pub order_wider : (low high low' high' : ℕ) (ps : List Piece) → low' ≤ low → high ≤ high' → AreInOrder low high ps
    → AreInOrder low' high' ps
order_wider low high low' high' [] before after order = omega (arith, order)
order_wider low high low' high' (p ∷ ps) before after order = (
  order.0,
  omega (arith, before, order.1),
  lies_lower low low' order.0 p before order.2,
  order_wider order.0 high order.0 high' ps (omega arith) after order.3,
)
  where
    lies_lower : (low low' high : ℕ) (p : Piece) → low' ≤ low → LiesBetween low high p → LiesBetween low' high p
    lies_lower low low' high (Old b from to) before lies = tt
    lies_lower low low' high (Scaled b from to gain) before lies = tt
    lies_lower low low' high (Zero len) before lies = tt
    lies_lower low low' high (Given from to) before lies = λ less.
        let both = lies less in (omega (arith, both.0), both.1)
