-- A header of each version has a format that a header may have.
use Rattle.project_journal.proofs.Common.{◌≡◌, ◌⊎◌, ℕ, zero, suc, ◌-◌, ◌^◌, ◌<◌, ◌≤◌, min, List, ◌++◌}
use Rattle.project_journal.proofs.Common.{cases_Bool, ⊎_elim, None, refl, arith, subst, inl, inr}
use Rattle.project_journal.proofs.Common.{nat_lt, Form, IsForm, IsFormat, first_failed, base_tests}
use Rattle.project_journal.proofs.Common.{last_tests, base_fields, no_base, wide_tests, Log, HasLog, IsHeader, field}
use Rattle.project_journal.proofs.Common.{Base, Damaged, Files}
use Rattle.std.proofs.Common.{rules}
use Rattle.project_journal.specs.Header.{number_tests, base_tests_in, the_zeros, depth_in}
use Rattle.project_journal.proofs.{Formats.is_size, Parses.by_form}
pub use Rattle.project_journal.proofs.Formats.{Pass, all_pass}

-- no version has more points than the last one
depth_bounds : (version : ℕ) → (1 ≤ depth_in version) × (depth_in version ≤ 65536)
depth_bounds version =
    ⊎_elim (λ old. rw old (omega arith)) (λ new. rw new (omega arith)) (cases_Bool (nat_lt version 3))

numbers_format : (version : ℕ) (head : List ℕ) (more : List Damaged)
    → first_failed (number_tests version head ++ more) ≡ None
    → IsFormat (field 9 4 head) (field 13 4 head) (field 17 4 head)
unfolding number_tests
numbers_format version head more e =
    let pass = (all_pass (number_tests version head ++ more) e).1.1 in
    omega (arith, pass.0, is_size (field 13 4 head) pass.1.0, depth_bounds version, pass.1.1.0)

-- of each version
pub numbers_valid : (form : Form) (head : List ℕ) → IsForm form → first_failed (form.tests head) ≡ None
    → IsFormat (field 9 4 head) (field 13 4 head) (field 17 4 head)
numbers_valid form head known =
    by_form (λ (f : Form). first_failed (f.tests head) ≡ None
    → IsFormat (field 9 4 head) (field 13 4 head) (field 17 4 head)) form known
    (numbers_format 1 head (the_zeros head)) (numbers_format 2 head (base_tests head ++ last_tests head))
    (numbers_format 3 head (base_tests head ++ wide_tests head))

-- the numbers of a header's bytes under other names
pub format_as : {r s d rate block_size depth : ℕ} → IsFormat r s d → r ≡ rate → s ≡ block_size → d ≡ depth
    → IsFormat rate block_size depth
format_as {r = r} {s = s} {block_size = m} {depth = n} format rate block_size depth =
    subst (λ (k : ℕ). IsFormat k m n) rate
    (subst (λ (k : ℕ). IsFormat r k n) block_size (subst (λ (k : ℕ). IsFormat r s k) depth format))

pub header_format : (form : Form) (head : List ℕ) (log : Log) → IsForm form → IsHeader form head log
    → IsFormat log.rate log.block_size log.depth
header_format form head log known is =
    format_as (numbers_valid form head known is.valid) is.rate is.block_size is.depth

pub any_format : (form : Form) (log : Log) (c : Files) → IsForm form → HasLog form log c
    → IsFormat log.rate log.block_size log.depth
any_format form log c known has = header_format form has.spelled.head log known has.spelled.header

-- the base of each version is in its bounds
pub record HasBase (b : Base) : Type 0 where
  pub generation : b.generation ≤ 2 ^ 62
  pub commit : b.commit ≤ 2 ^ 62
  pub block_least : 16 ≤ b.next_block
  pub block_most : b.next_block ≤ 2 ^ 62
  pub track_least : 1 ≤ b.next_track
  pub track_most : b.next_track ≤ 2 ^ 62

none_bounds : HasBase no_base
none_bounds = search (rules, arith)

base_bounds : (version : ℕ) (head : List ℕ) (more : List Damaged)
    → first_failed (number_tests version head ++ (base_tests head ++ more)) ≡ None → HasBase (base_fields head)
unfolding number_tests base_tests_in
base_bounds version head more e =
    let pass = (all_pass (number_tests version head ++ (base_tests head ++ more)) e).1.1.1.1.1 in
    omega (arith, pass)

-- and so are its counts, where it has points
pub record HasCounts (depth : ℕ) (b : Base) : Type 0 where
  pub few : b.count ≤ depth
  pub current : (b.count ≡ 0) ⊎ (b.cursor < b.count)

zero_or_below : (n k : ℕ) → min (n - 1) k ≡ k → (n ≡ 0) ⊎ (k < n)
zero_or_below zero k e = inl refl
zero_or_below (suc n) k e = inr (omega (arith, e))

base_counts : (version : ℕ) (head : List ℕ) (more : List Damaged)
    → first_failed (number_tests version head ++ (base_tests head ++ more)) ≡ None
    → HasCounts (field 17 4 head) (base_fields head)
unfolding number_tests base_tests_in
base_counts version head more e =
    let pass = (all_pass (number_tests version head ++ (base_tests head ++ more)) e).1.1.1.1.1.1.1.1.1.1.1.1.1 in
    record {
      few = omega (arith, pass.0);
      current = zero_or_below (field 53 4 head) (field 57 4 head) pass.1.1.0;
    }

pub base_valid : (form : Form) (head : List ℕ) → IsForm form → first_failed (form.tests head) ≡ None
    → HasBase (form.base_at head)
base_valid form head known =
    by_form (λ (f : Form). first_failed (f.tests head) ≡ None → HasBase (f.base_at head)) form known
    (λ is. none_bounds) (base_bounds 2 head (last_tests head)) (base_bounds 3 head (wide_tests head))

pub counts_valid : (form : Form) (head : List ℕ) → IsForm form → first_failed (form.tests head) ≡ None
    → HasCounts (field 17 4 head) (form.base_at head)
counts_valid form head known =
    by_form (λ (f : Form). first_failed (f.tests head) ≡ None → HasCounts (field 17 4 head) (f.base_at head)) form known
    (λ is. record { few = omega arith; current = inl refl })
    (base_counts 2 head (last_tests head)) (base_counts 3 head (wide_tests head))

pub any_base : (form : Form) (log : Log) (c : Files) → IsForm form → HasLog form log c → HasBase log.base
any_base form log c known has =
    let is = has.spelled.header in
    subst HasBase is.base (base_valid form has.spelled.head known is.valid)
