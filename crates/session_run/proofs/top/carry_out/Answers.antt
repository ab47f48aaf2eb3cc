-- What the words ask for.
use Rattle.session_run.proofs.Common.{inl, refl, ap, ◌∙◌, Some}
use Rattle.session_run.proofs.{CallLemmas.asked, CallLemmas.idle, StreamLemmas.unread}
use Rattle.session_run.proofs.top.carry_out.Goals as goal

pub returns-in-Ok-New-clause-does : goal.returns-in-Ok-New-clause-does
returns-in-Ok-New-clause-does g c =
    let h = idle g.A.Source g.O.Sink c.args.devices c.args.store c.make_project.new.out in
    inl (asked _ _ _ h c.make_project.result (c.in-Ok-New.ensures.read ∙ ap Some c.in-Ok-New.field-0-is)
    (c.make_project.ensures h.ports.streams, ((refl, refl), (refl, refl), refl)))

pub returns-in-Ok-List-clause-does : goal.returns-in-Ok-List-clause-does
returns-in-Ok-List-clause-does g c =
    let h = idle g.A.Source g.O.Sink c.args.devices c.args.store c.list_project.new.out in
    inl (asked _ _ _ h c.list_project.result (c.in-Ok-List.ensures.read ∙ ap Some c.in-Ok-List.field-0-is)
    (c.list_project.ensures h.ports.streams, ((refl, refl), (refl, refl), refl)))

pub returns-in-Ok-Check-clause-does : goal.returns-in-Ok-Check-clause-does
returns-in-Ok-Check-clause-does g c =
    let h = idle g.A.Source g.O.Sink c.args.devices c.args.store c.check_project.new.out in
    inl (asked _ _ _ h c.check_project.result (c.in-Ok-Check.ensures.read ∙ ap Some c.in-Ok-Check.field-0-is)
    (c.check_project.ensures h.ports.streams, ((refl, refl), (refl, refl), refl)))

pub returns-in-Ok-Gen-clause-does : goal.returns-in-Ok-Gen-clause-does
returns-in-Ok-Gen-clause-does g c =
    let h = idle g.A.Source g.O.Sink c.args.devices c.args.store c.run_gen.new.out in
    inl (asked _ _ _ h c.run_gen.result (c.in-Ok-Gen.ensures.read ∙ ap Some c.in-Ok-Gen.field-0-is)
    (c.run_gen.ensures.sum h.ports.streams, c.run_gen.ensures.store, ((refl, refl), (refl, refl), refl)))

pub returns-in-Ok-New-clause-reads : goal.returns-in-Ok-New-clause-reads
returns-in-Ok-New-clause-reads g c = unread g.A.Source c.args.devices.streams.script.now

pub returns-in-Ok-List-clause-reads : goal.returns-in-Ok-List-clause-reads
returns-in-Ok-List-clause-reads g c = unread g.A.Source c.args.devices.streams.script.now

pub returns-in-Ok-Check-clause-reads : goal.returns-in-Ok-Check-clause-reads
returns-in-Ok-Check-clause-reads g c = unread g.A.Source c.args.devices.streams.script.now

pub returns-in-Ok-Gen-clause-reads : goal.returns-in-Ok-Gen-clause-reads
returns-in-Ok-Gen-clause-reads g c = unread g.A.Source c.args.devices.streams.script.now

pub returns-in-Err-Usage-clause-reads : goal.returns-in-Err-Usage-clause-reads
returns-in-Err-Usage-clause-reads g c = unread g.A.Source c.args.devices.streams.script.now

pub returns-in-Err-NoMemory-clause-reads : goal.returns-in-Err-NoMemory-clause-reads
returns-in-Err-NoMemory-clause-reads g c = unread g.A.Source c.args.devices.streams.script.now
