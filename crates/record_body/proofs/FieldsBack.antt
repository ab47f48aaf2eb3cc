-- Numbers and bytes where they stand pass their tests.
use Rattle.record_body.proofs.Common.{◌≡◌, ℕ, ◌+◌, ◌^◌, ◌≤◌, ◌<◌, List, [], ◌∷◌, ◌++◌, length, drop, slice_index}
use Rattle.record_body.proofs.Common.{None, refl, ap, ◌∙◌, arith}
use Rattle.record_body.proofs.Common.{little_number, little_bytes, little_number-reads_back, field, first_failed}
use Rattle.record_body.proofs.Common.{Damaged, least}
use Rattle.std.proofs.Common.{drop-drop, get_or-drop, eq-eqb}
use Rattle.std.proofs.{Math.Seq.drop-append_seam}
use Rattle.record_body.specs.FirstFault.{most}

-- a number where its bytes stand
pub number_there : (n x at : ℕ) (bytes rest : List ℕ) → drop at bytes ≡ little_bytes n x ++ rest → x < 256 ^ n
    → field at n bytes ≡ x
number_there n x at bytes rest e small = ap (little_number n) e ∙ little_number-reads_back n x rest small

-- a byte where it stands
pub byte_there : (x at : ℕ) (bytes rest : List ℕ) → drop at bytes ≡ x ∷ rest → slice_index bytes at ≡ x
byte_there x at bytes rest e = search (arith, get_or-drop at bytes 0 0)

-- what stands after a part
pub past : (at to : ℕ) (bytes front rest : List ℕ) → drop at bytes ≡ front ++ rest → to ≡ at + length front
    → drop to bytes ≡ rest
past at to bytes front rest e is = search (arith, drop-drop (length front) at bytes, drop-append_seam front rest)

-- no test fails
pub record NoneFails (tests : List Damaged) : Type 0 where
  pub none : first_failed tests ≡ None

pub no_test : NoneFails []
no_test = record { none = refl }

pub passes : (test : Damaged) (tests : List Damaged) → test.want ≡ test.have → NoneFails tests
    → NoneFails (test ∷ tests)
passes test tests same h = record { none = rw (eq-eqb test.want test.have same) h.none }

-- a number that is at least, or at most, its bound
pub least_passes : (at bound have x : ℕ) (tests : List Damaged) → have ≡ x → bound ≤ x → NoneFails tests
    → NoneFails (least at bound have ∷ tests)
least_passes at bound have x tests is enough = passes (least at bound have) tests (omega arith)

pub most_passes : (at bound have x : ℕ) (tests : List Damaged) → have ≡ x → x ≤ bound → NoneFails tests
    → NoneFails (most at bound have ∷ tests)
most_passes at bound have x tests is enough = passes (most at bound have) tests (omega arith)

-- tests after tests
pub both_pass : (xs ys : List Damaged) → NoneFails xs → NoneFails ys → NoneFails (xs ++ ys)
both_pass [] ys a b = b
both_pass (x ∷ xs) ys a b = search (arith, both_pass xs ys)
