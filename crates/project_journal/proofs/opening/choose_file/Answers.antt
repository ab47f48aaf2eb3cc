-- By the front of each file.
use Rattle.project_journal.proofs.Common.{◌≡◌, ◌∙◌, ap, arith, take, length-take, exit_err, Files, bytes_of, two_files}
use Rattle.project_journal.proofs.Choices.{chooses_fault, chooses_front, front_read, two_few, two_fronts}
use Rattle.project_journal.proofs.Starts.{causes_same}
use Rattle.project_journal.proofs.opening.choose_file.Goals as goal

pub returns-in_err-one-clause-some : goal.returns-in_err-one-clause-some
returns-in_err-one-clause-some g c =
    rw (exit_err c.from_residual.result c.from_residual.ensures.1) chooses_fault

pub returns-in_err-two-clause-some : goal.returns-in_err-two-clause-some
returns-in_err-two-clause-some g c =
    rw (exit_err c.from_residual-in_err-two.result c.from_residual-in_err-two.ensures.1) chooses_fault

pub returns-clause-chooses : goal.returns-clause-chooses
returns-clause-chooses g c = λ tells.
    let old = g.S.Store.reads c.args.store.now in
    let kept = c.read_front.ensures.kept in
    let later = kept.same_tells ∙ tells in
    let first : take c.in_ok-one.one c.read_front.new.buf ≡ take 33 (bytes_of (old 0)) =
    ap (take c.in_ok-one.one) (c.in_ok-one.ensures.read tells)
    ∙ front_read (bytes_of (old 0)) _ c.in_ok-one.one (c.in_ok-one.ensures.count tells) in
    let now = g.S.Store.reads c.read_front.new.store in
    let second : take c.in_ok-two.two c.read_front-2.new.buf ≡ take 33 (bytes_of (now 1)) =
    ap (take c.in_ok-two.two) (c.in_ok-two.ensures.read later)
    ∙ front_read (bytes_of (now 1)) _ c.in_ok-two.two (c.in_ok-two.ensures.count later) in
    let a = take c.in_ok-one.one c.read_front.new.buf in
    let b = take c.in_ok-two.two c.read_front-2.new.buf in
    chooses_front (two_files a b) old c.choose.result
    (two_fronts a b old first (second ∙ ap (λ (f : Files). take 33 (bytes_of (f 1))) kept.same_reads))
    c.choose.ensures.chooses

pub returns-clause-some : goal.returns-clause-some
returns-clause-some g c =
    let a = take c.in_ok-one.one c.read_front.new.buf in
    let b = take c.in_ok-two.two c.read_front-2.new.buf in
    record {
      files = two_files a b;
      few = two_few a b (omega (arith, length-take c.in_ok-one.one c.read_front.new.buf, c.in_ok-one.ensures.within))
          (omega (arith, length-take c.in_ok-two.two c.read_front-2.new.buf, c.in_ok-two.ensures.within));
      chooses = c.choose.ensures.chooses;
    }

pub returns-clause-cause : goal.returns-clause-cause
returns-clause-cause g c =
    causes_same g.S.Store _ _ c.choose.result (c.in_ok-two.ensures.faults.kept ∙ c.in_ok-one.ensures.faults.kept)
    (c.read_front-2.ensures.kept.same_faults ∙ c.read_front.ensures.kept.same_faults) c.choose.ensures.no_fault
