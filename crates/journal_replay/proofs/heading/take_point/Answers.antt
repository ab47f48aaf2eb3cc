-- The point that was met, or where the file ends.
use Rattle.journal_replay.proofs.Common.{◌∙◌, ap, ℕ, inl, refl, subst, Next}
use Rattle.project_journal.specs.{Reader.GoesOn}
use Rattle.journal_replay.proofs.{Journals.later_on, Pointed.takes}
use Rattle.project_journal.specs.declared.fault.JournalFault.TheVariants as journal
use Rattle.journal_replay.proofs.heading.take_point.Goals as goal

pub returns-in-Whole-clause-takes : goal.returns-in-Whole-clause-takes
returns-in-Whole-clause-takes g c = λ points is fewer.
    takes g.S.Store c.next_point.new.store c.args.m c.next_point.new.self points c.read_last.result
    (subst (λ (n : Next). GoesOn g.S.Store c.next_point.new.store c.next_point.new.self points n) c.in-Whole.is
    (c.in_ok-next.ensures.goes points is fewer)) c.read_last.ensures.reads

pub returns-in-Whole-clause-later : goal.returns-in-Whole-clause-later
returns-in-Whole-clause-later g c =
    later_on c.args.reader.now c.next_point.new.self c.read_last.result c.in_ok-next.ensures.later

pub returns-in-Early-clause-takes : goal.returns-in-Early-clause-takes
returns-in-Early-clause-takes g c = λ points is fewer.
    rw (c.in_journal.ensures ∙ ap (λ (f : ℕ). journal.Damaged f c.in-Early.fault.at c.in-Early.fault.want
    c.in-Early.fault.have) c.file.ensures) (
      refl,
      inl (subst (λ (n : Next). GoesOn g.S.Store c.next_point.new.store c.next_point.new.self points n)
          c.in-Early.is (c.in_ok-next.ensures.goes points is fewer)),
    )
