-- Each job is one of the four.
use Rattle.std.proofs.Common.{sym, subst}
use Rattle.pin_turn.specs.Calls.{known}
use Rattle.studio_seats.specs.{Desks.start_at, Desks.views, Onward.Onward, Stands.origin}
use Rattle.seat_examples.specs.{declared.jobs.Job.Job, Jobs.asked, Jobs.did}
use Rattle.memory_disk.specs.contracts.ram.RamStoreStore.TheImpl as ram
use Rattle.edit_ports.specs.contracts.mem_vault.MemVaultVault.TheImpl as mem
use Rattle.seat_examples.proofs.jobs.work.Goals as goal

pub returns-in-Record-clause-goes : goal.returns-in-Record-clause-goes
returns-in-Record-clause-goes g c =
    let goes : Job → Type 0 = λ job. Onward (asked job) (known c.args.seat) (known c.record.result.0) in
    subst goes (sym c.in-Record.is) c.record.ensures.goes

pub returns-in-Play-clause-goes : goal.returns-in-Play-clause-goes
returns-in-Play-clause-goes g c =
    let goes : Job → Type 0 = λ job. Onward (asked job) (known c.args.seat) (known c.play.result.0) in
    subst goes (sym c.in-Play.is) c.play.ensures.goes

pub returns-in-Play-clause-done : goal.returns-in-Play-clause-done
returns-in-Play-clause-done g c = λ is.
    let from = origin ram.ghosts mem.ghosts (start_at c.args.desk.now) in
    let done : Job → Type 0 =
    λ job. did from job c.args.turns (views (known c.args.seat) (known c.play.result.0)) in
    subst done (sym c.in-Play.is) (c.play.ensures.done is)

pub returns-in-Reclaim-clause-goes : goal.returns-in-Reclaim-clause-goes
returns-in-Reclaim-clause-goes g c =
    let goes : Job → Type 0 = λ job. Onward (asked job) (known c.args.seat) (known c.reclaim.result.0) in
    subst goes (sym c.in-Reclaim.is) c.reclaim.ensures.goes
