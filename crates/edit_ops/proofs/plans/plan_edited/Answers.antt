-- What a plan means and makes, by the edit.
use Rattle.edit_ops.proofs.Common.{◌≤◌, length, arith, Sources, Plan}
use Rattle.std.proofs.Common.{Result, Ok, Err, IfOk}
use Rattle.pcm_base.specs.{declared.failed.NoMemory.NoMemory, Sizes.blocks_of_tracks}
use Rattle.edit_ops.proofs.plans.plan_edited.Goals as goal

-- of an edit that computes no sample
few_edges : (r : Result Plan NoMemory) → IfOk r (λ (p : Plan). length p.makes ≤ 8)
    → IfOk r (λ (p : Plan). (src : Sources) → length p.makes ≤ blocks_of_tracks 1)
few_edges (Err e) few = tt
few_edges (Ok p) few = λ src. omega (arith, few)

pub returns-in-Delete-clause-cells : goal.returns-in-Delete-clause-cells
returns-in-Delete-clause-cells c = rw c.in-Delete.is c.plan_cut.ensures.cells

pub returns-in-Delete-clause-few_made : goal.returns-in-Delete-clause-few_made
returns-in-Delete-clause-few_made c = rw c.in-Delete.is (few_edges c.plan_cut.result c.plan_cut.ensures.few_made)

pub returns-in-SplitDelete-clause-cells : goal.returns-in-SplitDelete-clause-cells
returns-in-SplitDelete-clause-cells c = rw c.in-SplitDelete.is c.plan_cut-in-SplitDelete.ensures.cells

pub returns-in-SplitDelete-clause-few_made : goal.returns-in-SplitDelete-clause-few_made
returns-in-SplitDelete-clause-few_made c = rw c.in-SplitDelete.is (few_edges c.plan_cut-in-SplitDelete.result c.plan_cut-in-SplitDelete.ensures.few_made)

pub returns-in-Silence-clause-cells : goal.returns-in-Silence-clause-cells
returns-in-Silence-clause-cells c = rw c.in-Silence.is c.plan_with_change.ensures.cells

pub returns-in-Silence-clause-few_made : goal.returns-in-Silence-clause-few_made
returns-in-Silence-clause-few_made c = rw c.in-Silence.is c.plan_with_change.ensures.few_made

pub returns-in-Trim-clause-cells : goal.returns-in-Trim-clause-cells
returns-in-Trim-clause-cells c = rw c.in-Trim.is c.plan_cut-in-Trim.ensures.cells

pub returns-in-Trim-clause-few_made : goal.returns-in-Trim-clause-few_made
returns-in-Trim-clause-few_made c = rw c.in-Trim.is (few_edges c.plan_cut-in-Trim.result c.plan_cut-in-Trim.ensures.few_made)

pub returns-in-Gain-clause-cells : goal.returns-in-Gain-clause-cells
returns-in-Gain-clause-cells c = rw c.in-Gain.is c.plan_with_change-in-Gain.ensures.cells

pub returns-in-Gain-clause-few_made : goal.returns-in-Gain-clause-few_made
returns-in-Gain-clause-few_made c = rw c.in-Gain.is c.plan_with_change-in-Gain.ensures.few_made
