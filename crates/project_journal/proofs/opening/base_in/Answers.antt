-- The fields of the padded bytes are those of all.
use Rattle.project_journal.proofs.Common.{refl, ◌∙◌, arith, le-ltb}
use Rattle.project_journal.proofs.{Padded.padded_alike, Parses.fields_alike}
use Rattle.project_journal.proofs.opening.base_in.Goals as goal

pub returns-clause-base : goal.returns-clause-base
returns-clause-base c =
    rw (le-ltb c.args.version 2 (omega (arith, c.if-version-lt-BASE_VERSION.false)))
    (c.base_of.ensures ∙ fields_alike (padded_alike _ c.args.bytes.now c.head_of.ensures refl))
