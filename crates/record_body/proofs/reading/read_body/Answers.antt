-- Bytes whose tests pass are the one spelling of what they say; those of a valid body pass.
use Rattle.record_body.proofs.Common.{◌≡◌, None, List, ℕ, sym, ap, ◌∙◌, subst, arith, first_failed, Body, body_tests}
use Rattle.record_body.proofs.Common.{body_at, IsValidBody, spelling, IsBytes, all_pass}
use Rattle.record_body.proofs.Steps.{finds_matches, finds_weaker}
use Rattle.record_body.proofs.{ReadBack.read_back, ValidBodies.valid_body, Spelled.spelled}
use Rattle.record_body.proofs.reading.read_body.Goals as goal

pub returns-clause-found : goal.returns-clause-found
returns-clause-found c =
    let m = c.args.m in
    let b = c.args.before in
    let bytes = c.args.bytes.now in
    let fit : IsBytes bytes = record { below = λ i. omega (arith, c.type_inv.bytes i) } in
    finds_weaker (body_tests m b bytes) (λ x. x ≡ body_at bytes) (λ x. (spelling x ≡ bytes) × IsValidBody m b x)
    c.read_fields.result (λ x none is. (
      ap spelling is ∙ spelled m b bytes fit.below none,
      subst (IsValidBody m b) (sym is) (valid_body m b bytes fit (all_pass (body_tests m b bytes) none)),
    )) c.read_fields.ensures

pub returns-clause-back : goal.returns-clause-back
returns-clause-back c = λ body e valid least.
    let m = c.args.m in
    let b = c.args.before in
    let bytes = c.args.bytes.now in
    let read = read_back m b body least (omega (arith, c.ranges.m)) valid in
    finds_matches (body_tests m b bytes) (λ x. x ≡ body_at bytes) (λ x. x ≡ body) c.read_fields.result
    (subst (λ (bs : List ℕ). first_failed (body_tests m b bs) ≡ None) e read.0)
    (λ (x : Body) is. is ∙ ap body_at (sym e) ∙ read.1) c.read_fields.ensures
