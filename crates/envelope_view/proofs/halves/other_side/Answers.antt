-- The rest, where nothing more is read.
use Rattle.envelope_view.proofs.Common.{Option, subst, Summary, IsSum}
use Rattle.std.specs.Prelude.{IfSome}
use Rattle.envelope_view.proofs.BlockReads.{block_none}
use Rattle.envelope_view.proofs.halves.other_side.Goals as goal

pub returns-in-Some : goal.returns-in-Some
returns-in-Some g c = block_none _ (g.met.S.Store.may_fewer _) (λ told xs e len.
    subst (λ (rest : Option Summary). IfSome rest (IsSum c.args.from c.args.to xs)) c.in-Some.is
    (c.requires.rest told xs e len))
