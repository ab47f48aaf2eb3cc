-- Each test has its field.
use Rattle.project_journal.proofs.Common.{◌-◌, ◌^◌, min, max, ◌∷◌, [], ap, arith, Base, field}
use Rattle.project_journal.specs.{Header.base_tests_in}
use Rattle.project_journal.proofs.Padded.{told_as}
use Rattle.project_journal.proofs.base_header.base_tests_of.Goals as goal

pub returns : goal.returns
unfolding base_tests_in
returns c =
    let head = c.args.head.now in
    let b = c.base_of-base.ensures in
    let generation = ap (λ (x : Base). x.generation) b in
    let commit = ap (λ (x : Base). x.commit) b in
    let block = ap (λ (x : Base). x.next_block) b in
    let track = ap (λ (x : Base). x.next_track) b in
    let count = ap (λ (x : Base). x.count) b in
    let cursor = ap (λ (x : Base). x.cursor) b in
    let t1 = told_as 21 (min (2 ^ 62) (field 21 8 head)) (field 21 8 head) c.test_long.result c.test_long.ensures
    (omega (arith, c.min.ensures, generation)) generation in
    let t2 = told_as 29 (min (2 ^ 62) (field 29 8 head)) (field 29 8 head) c.test_long-2.result c.test_long-2.ensures
    (omega (arith, c.min-2.ensures, commit)) commit in
    let t3 = told_as 37 (min (2 ^ 62) (max 16 (field 37 8 head))) (field 37 8 head) c.test_long-3.result
    c.test_long-3.ensures (omega (arith, c.min-3.ensures, c.max.ensures, block)) block in
    let t4 = told_as 45 (min (2 ^ 62) (max 1 (field 45 8 head))) (field 45 8 head) c.test_long-4.result
    c.test_long-4.ensures (omega (arith, c.min-4.ensures, c.max-2.ensures, track)) track in
    let t5 = told_as 53 (min (field 17 4 head) (max 1 (field 53 4 head))) (field 53 4 head) c.test.result c.test.ensures
    (omega (arith, c.min-5.ensures, c.max-3.ensures, count, c.u32_at-depth.ensures)) count in
    let t6 = told_as 57 (min (field 53 4 head - 1) (field 57 4 head)) (field 57 4 head) c.test-2.result c.test-2.ensures
    (omega (arith, c.min-6.ensures, c.saturating_sub.ensures, count, cursor)) cursor in
    λ i.
    t1 i ∷ c.ends_in.ensures i ∷ t2 i ∷ c.ends_in-2.ensures i ∷ t3 i ∷ c.ends_in-3.ensures i ∷ t4 i
    ∷ c.ends_in-4.ensures i ∷ t5 i ∷ c.ends_in-5.ensures i ∷ t6 i ∷ []
