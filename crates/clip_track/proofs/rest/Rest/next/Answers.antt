use Rattle.clip_track.proofs.Common.{subst, AreItems}
use Rattle.clip_track.proofs.RestItems.{AreItems-left}
use Rattle.clip_track.proofs.rest.Rest.next.Goals as goal

pub returns-then-left-gt0-clause-ok : goal.returns-then-left-gt0-clause-ok
returns-then-left-gt0-clause-ok c = subst AreItems c.self.view_is (AreItems-left c.self.inside.left c.self.invariant)

pub returns-clause-ok : goal.returns-clause-ok
returns-clause-ok c = subst AreItems c.self.view_is (AreItems-left c.self.inside.left c.self.invariant)
