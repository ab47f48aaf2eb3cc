-- The gaps that are seen are put.
use Rattle.cell_reader.proofs.Common.{◌≡◌, ◌≤◌, ◌+◌, ◌-◌, length, take, drop, arith, ◌∙◌, length-drop, length-replicate}
use Rattle.cell_reader.proofs.Common.{length-take, replicate, Gap, place_in}
use Rattle.cell_reader.proofs.SeenLaws.{puts_mid, gap_part}
use Rattle.cell_reader.proofs.places.put_gap.Goals as goal

pub returns : goal.returns
returns g c =
    let a = c.args in
    let start = c.place_in-start.result in
    let k = c.place_in-end.result - start in
    let order : a.view.from ≤ a.view.to = omega (arith, c.requires.size) in
    let fits : start ≤ length a.out.now = omega (arith, c.place_in-start.ensures, c.requires.size) in
    let size : length (take k (drop start a.out.now))
    ≡ place_in a.view (a.at + a.len) - place_in a.view a.at =
    omega (
      arith,
      length-take k (drop start a.out.now),
      length-drop start a.out.now,
      c.place_in-start.ensures,
      c.place_in-end.ensures,
      c.requires.size,
    ) in
    puts_mid g.T.FromCell.made a.view a.at a.len k start (replicate a.len Gap) c.fill_gaps.new.out a.out.now order
    (length-replicate a.len Gap) c.place_in-start.ensures fits
    (c.fill_gaps.ensures ∙ gap_part g.T.FromCell.made a.view a.at a.len (length (take k (drop start a.out.now))) order size)
