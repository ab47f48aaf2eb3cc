-- By the length of a point, and then by all of it.
use Rattle.project_journal.proofs.Common.{◌+◌, ◌∙◌, sym, arith, kept_turn, HasRoomFor, LiesAfter}
use Rattle.project_journal.proofs.Standing.{point_look, standing_as, found_in, not_whole}
use Rattle.project_journal.proofs.window.Window.look_at_point.Goals.{After-point_stands-in-Whole}
use Rattle.project_journal.proofs.window.Window.look_at_point.Goals as goal

found : (g : _) (c : After-point_stands-in-Whole g) → LiesAfter 4 c.fill-in-Whole.new.self c.args.at
    c.point_stands-in-Whole.result
    × HasRoomFor c.args.self.now c.fill-in-Whole.new.self c.point_stands-in-Whole.result
found g c = found_in (point_look c.args.at) c.args.self.now c.fill.new.self c.fill-in-Whole.new.self c.args.at
    c.in-Whole.len
    c.args.self.now.size c.fill.new.self.size c.point_stands-in-Whole.result c.in_ok-fill-in-Whole.ensures.held
    c.in_ok-fill.ensures.enough c.in_ok-fill-in-Whole.ensures.enough c.in_ok-fill-in-Whole.ensures.front
    (sym c.point_stands.ensures ∙ c.in-Whole.is) c.point_stands-in-Whole.ensures c.in_ok-fill.ensures.room
    c.in_ok-fill-in-Whole.ensures.room

pub returns-in_ok-fill-in-Whole-clause-stands : goal.returns-in_ok-fill-in-Whole-clause-stands
returns-in_ok-fill-in-Whole-clause-stands g c =
    standing_as (point_look c.args.at) c.fill-in-Whole.new.self c.args.at (4 + c.in-Whole.len) c.fill.new.self.size
    c.point_stands-in-Whole.result c.in_ok-fill-in-Whole.ensures.held (omega arith) c.in_ok-fill-in-Whole.ensures.enough
    c.point_stands-in-Whole.ensures

pub returns-in_ok-fill-in-Whole-clause-within : goal.returns-in_ok-fill-in-Whole-clause-within
returns-in_ok-fill-in-Whole-clause-within g c =
    (found g (goal.at.returns-in_ok-fill-in-Whole-clause-within g c).After-point_stands-in-Whole).0

pub returns-in_ok-fill-in-Whole-clause-room : goal.returns-in_ok-fill-in-Whole-clause-room
returns-in_ok-fill-in-Whole-clause-room g c =
    (found g (goal.at.returns-in_ok-fill-in-Whole-clause-room g c).After-point_stands-in-Whole).1

pub returns-in_ok-fill-in-Whole-clause-kept : goal.returns-in_ok-fill-in-Whole-clause-kept
returns-in_ok-fill-in-Whole-clause-kept g c = kept_turn c.fill.ensures.kept c.fill-in-Whole.ensures.kept

pub returns-in_default-clause-stands : goal.returns-in_default-clause-stands
returns-in_default-clause-stands g c =
    standing_as (point_look c.args.at) c.fill.new.self c.args.at 4 c.args.self.now.size c.point_stands.result
    c.in_ok-fill.ensures.held (omega arith) c.in_ok-fill.ensures.enough c.point_stands.ensures

pub returns-in_default-clause-within : goal.returns-in_default-clause-within
returns-in_default-clause-within g c =
    (not_whole 4 c.args.self.now c.fill.new.self c.args.at c.point_stands.result c.in_default.not-Whole).0

pub returns-in_default-clause-room : goal.returns-in_default-clause-room
returns-in_default-clause-room g c =
    (not_whole 4 c.args.self.now c.fill.new.self c.args.at c.point_stands.result c.in_default.not-Whole).1
