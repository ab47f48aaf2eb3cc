-- Samples of a block from a number on, and those after them.
use Rattle.block_cache.proofs.Common.{◌≡◌, ◌≤◌, ◌<◌, ◌+◌, ◌*◌, ℕ, ℤ, List, [], ◌++◌, take, drop, length, arith, refl}
use Rattle.block_cache.proofs.Common.{sym, ap, ◌∙◌, length-drop, Files, bytes_of, samples_in, BlockRef, samples_on}
use Rattle.block_cache.proofs.Common.{HasPart}
use Rattle.std.proofs.lemmas.List.{append-nil, drop_all}
use Rattle.sample_block.proofs.Laws.{samples_more}
use borrow.Rule.Slice.PartMut.{put_mid}

-- samples, and some after them
pub part_more : (files : Files) (b : BlockRef) (from done n m k : ℕ) (out part : List ℤ) → done ≤ length out → 0 < n
    → m ≡ n
    → HasPart files b from done (take done out) → HasPart files b (from + done) m part
    → HasPart files b from (done + n) (take (done + n) (put_mid done k out part))
part_more files b from done n m k out part le some size before got = record {
  header = λ _. got.header (omega (arith, some, size));
  whole = λ _. omega (arith, got.whole (omega (arith, some, size)), size);
  samples = samples_on files files b.id (16 + 2 * from) from done n m k out part refl le refl before.samples
      got.samples size;
}

-- samples, and all others after them
pub part_rest : (files : Files) (b : BlockRef) (from done n m k : ℕ) (out part : List ℤ) → done ≤ length out
    → length out ≤ done + k → done + m ≡ n
    → HasPart files b from done (take done out)
    → part ≡ samples_in (bytes_of (files b.id)) (16 + 2 * (from + done)) m
    → put_mid done k out part ≡ samples_in (bytes_of (files b.id)) (16 + 2 * from) n
part_rest files b from done n m k out part le all size before got =
    let bytes : List ℕ = bytes_of (files b.id) in
    let at : ℕ = 16 + 2 * from in
    let none : drop k (drop done out) ≡ [] = drop_all k (drop done out) (omega (arith, length-drop done out, all)) in
    let place : 16 + 2 * (from + done) ≡ at + 2 * done = omega arith in
    ap (λ (xs : List ℤ). take done out ++ (part ++ xs)) none
    ∙ ap (λ (xs : List ℤ). take done out ++ xs) (append-nil part)
    ∙ ap (λ (xs : List ℤ). xs ++ part) before.samples
    ∙ ap (λ (xs : List ℤ). samples_in bytes at done ++ xs) (got ∙ ap (λ j. samples_in bytes j m) place)
    ∙ sym (samples_more bytes at done m) ∙ ap (samples_in bytes at) size
