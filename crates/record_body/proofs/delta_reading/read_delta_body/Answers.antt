-- Bytes whose tests pass say one body, which is valid; those of a valid body pass.
use Rattle.record_body.proofs.Common.{◌≡◌, None, List, ℕ, subst, arith, first_failed, Body, delta_tests, SaysBody}
use Rattle.record_body.proofs.Common.{unnumbered_body, ReadsBody, IsValidBody, IsBytes}
use Rattle.record_body.proofs.Steps.{finds_matches, finds_ok, finds_weaker}
use Rattle.record_body.proofs.{DeltaBack.delta_read_back, SaysOnce.says_once, DiffBack.are_short, DiffValid.delta_valid}
use Rattle.record_body.proofs.delta_reading.read_delta_body.Goals as goal

pub returns-clause-found : goal.returns-clause-found
returns-clause-found c = search (arith, c.read_by.ensures, finds_weaker)

pub returns-clause-shared : goal.returns-clause-shared
returns-clause-shared c = search (arith, c.read_by.ensures, finds_ok)

pub returns-clause-valid : goal.returns-clause-valid
returns-clause-valid c = λ next so_valid.
    let m = c.args.m in
    let b = c.args.before in
    let now = c.args.current.now in
    let bytes = c.args.bytes.now in
    let fit : IsBytes bytes = record { below = λ i. omega (arith, c.type_inv.bytes i) } in
    finds_ok (delta_tests m b now bytes) (ReadsBody now bytes) (λ x. IsValidBody m b (unnumbered_body x)) c.read_by.result
    (λ (x : Body) none is. delta_valid m b next now bytes (unnumbered_body x) fit so_valid none is.0) c.read_by.ensures

pub returns-clause-back : goal.returns-clause-back
returns-clause-back c = λ body e so_valid least room short.
    let m = c.args.m in
    let b = c.args.before in
    let now = c.args.current.now in
    let bytes = c.args.bytes.now in
    let read = delta_read_back m b now body least (omega (arith, c.ranges.m)) room (are_short now short) so_valid in
    finds_matches (delta_tests m b now bytes) (ReadsBody now bytes) (λ x. unnumbered_body x ≡ body) c.read_by.result
    (subst (λ (bs : List ℕ). first_failed (delta_tests m b now bs) ≡ None) e read.tests)
    (λ (x : Body) is. says_once now bytes (unnumbered_body x) body is.0
    (subst (λ (bs : List ℕ). SaysBody now bs body) e read.says)) c.read_by.ensures
