-- The goals of `place` that the search leaves open.
use Rattle.edit_ops.proofs.Common.{length, arith, length_limit, placed_length, layouts, lengths_of}
use Rattle.edit_ops.proofs.RunLists.{length-layouts, wide_enough, lengths_pass, lengths_fit}
use Rattle.edit_ops.proofs.runs.place.Goals as goal

pub paste_each-requires-clause-wide : goal.paste_each-requires-clause-wide
paste_each-requires-clause-wide c =
    let run = c.args.run.now in
    let clip = c.args.clip.now in
    omega (
      arith,
      wide_enough (length (layouts run)) (length clip) (length_limit (lengths_of
          (placed_length c.args.placing c.args.at) clip (layouts run))) c.in_ok-paste_tests.ensures,
      length-layouts run,
    )

pub paste_each-requires-clause-few : goal.paste_each-requires-clause-few
paste_each-requires-clause-few c = lengths_fit c.args.placing c.args.at c.args.clip.now (layouts c.args.run.now)
    (lengths_pass (length (layouts c.args.run.now)) (length c.args.clip.now) (length_limit (lengths_of
    (placed_length c.args.placing c.args.at) c.args.clip.now (layouts c.args.run.now))) c.in_ok-paste_tests.ensures)
