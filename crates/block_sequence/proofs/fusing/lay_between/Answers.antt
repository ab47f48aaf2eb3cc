-- The goals of `lay_between` that the search leaves open.
use Rattle.std.proofs.{Common.arith, lemmas.Result.on_ok_weaker}
use Rattle.block_sequence.proofs.Clip.{AllValid-take, AllValid-drop, AllFit-take, AllFit-drop, total_between}
use Rattle.block_sequence.proofs.Clip.{samples_between}
use Rattle.block_sequence.proofs.{Rest.total_rest, Origins.AllFrom-take, Origins.AllFrom-drop}
use Rattle.block_sequence.proofs.fusing.lay_between.Goals as goal

pub lay_run-requires-clause-valid : goal.lay_run-requires-clause-valid
lay_run-requires-clause-valid c = AllValid-take _ _ (AllValid-drop _ _ c.requires.valid)

pub lay_run-requires-clause-fit : goal.lay_run-requires-clause-fit
lay_run-requires-clause-fit c = AllFit-take _ _ _ (AllFit-drop _ _ _ c.requires.fit)

pub lay_run-requires-clause-run : goal.lay_run-requires-clause-run
lay_run-requires-clause-run c = total_between _ _ _ _ c.requires.rising c.requires.run

pub lay_run-requires-clause-few : goal.lay_run-requires-clause-few
lay_run-requires-clause-few c = let r = total_rest c.args.pieces.now c.args.span.start in omega arith

pub returns-clause-samples : goal.returns-clause-samples
returns-clause-samples c = on_ok_weaker c.lay_run.result (λ f src. samples_between src c.args.pieces.now
    c.args.span.start c.args.span.end _ _ c.requires.rising (f src)) c.lay_run.ensures.samples

pub returns-clause-from : goal.returns-clause-from
returns-clause-from c = on_ok_weaker c.lay_run.result (λ g blocks count f k.
    g blocks count (AllFrom-take blocks count _ _ (AllFrom-drop blocks count _ _ f)) k) c.lay_run.ensures.from
