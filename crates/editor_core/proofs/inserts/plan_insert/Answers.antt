-- Samples at a place of a track, or at its end.
use Rattle.editor_core.proofs.Common.{sym, subst, ℕ, [], ◌∷◌, IfOk, arith, as_cells, inserted, stretch, length_limit}
use Rattle.editor_core.proofs.Common.{Plan, Means}
use Rattle.pcm_base.specs.{Refusals.inserted_length}
use Rattle.clip_track.specs.Clips.{end_of}
use Rattle.edit_ops.specs.{Plans.AnswersTest}
use Rattle.editor_tracks.specs.Inserts.{IsPlace}
use Rattle.editor_tracks.proofs.InsertLaws.{MeansPlace, TestsPlace, end_cells, end_test}
use Rattle.editor_core.proofs.inserts.plan_insert.Goals as goal

pub insert-requires-clause-sum : goal.insert-requires-clause-sum
insert-requires-clause-sum c =
    let low = subst IsPlace c.in-At.is c.requires.place in
    omega (arith, low, c.requires.count, c.requires.apart.few)

pub insert-requires-in-End-clause-sum : goal.insert-requires-in-End-clause-sum
insert-requires-in-End-clause-sum c = omega (arith, c.len.ensures.few, c.requires.count, c.requires.apart.few)

pub returns-in-At-clause-cells : goal.returns-in-At-clause-cells
returns-in-At-clause-cells c =
    subst (MeansPlace c.args.count c.args.layout.now c.insert.result) (sym c.in-At.is) c.insert.ensures.cells

pub returns-in-At-clause-tests : goal.returns-in-At-clause-tests
returns-in-At-clause-tests c =
    subst (TestsPlace c.args.count c.args.layout.now c.insert.result) (sym c.in-At.is) c.insert.ensures.tests

pub returns-in-End-clause-cells : goal.returns-in-End-clause-cells
returns-in-End-clause-cells c =
    let cs = c.args.layout.now in
    let count = c.args.count in
    let r = c.insert-in-End.result in
    let means =
    subst (λ (k : ℕ). IfOk r (λ (p : Plan). Means (λ src. inserted k (as_cells (stretch src.given 0 count))) cs p))
    c.len.ensures.value c.insert-in-End.ensures.cells in
    subst (MeansPlace count cs r) (sym c.in-End.is) (end_cells count cs r c.requires.apart means)

pub returns-in-End-clause-tests : goal.returns-in-End-clause-tests
returns-in-End-clause-tests c =
    let cs = c.args.layout.now in
    let count = c.args.count in
    let r = c.insert-in-End.result in
    let tests = subst (λ (k : ℕ). AnswersTest (length_limit (inserted_length k count (end_of 0 cs) ∷ [])) r)
    c.len.ensures.value c.insert-in-End.ensures.tests in
    subst (TestsPlace count cs r) (sym c.in-End.is) (end_test count (end_of 0 cs) r tests)
