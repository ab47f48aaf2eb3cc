-- All seats are joined, so their turns are all of the list.
use Rattle.std.proofs.Common.{◌≡◌, ◌∙◌, ℕ, List, [], ap, subst, sym}
use Rattle.pin_turn.specs.Calls.{known}
use Rattle.editor_core.specs.Core.{core_of}
use Rattle.studio_seats.specs.{declared.deed.Deed.Deed, Deeds.number_after, Desks.start_at}
use Rattle.script_reader.specs.Change.{change}
use Rattle.desk_session.specs.{Lent.Kinds, Lent.Lent, Lent.kinds, Lent.lent_by, Lent.outcome, Sat.Sat, Sat.sitting}
use Rattle.desk_session.proofs.ClosedLemmas.{closed}
use Rattle.desk_session.proofs.seated.Seated.run.Goals as goal

-- a seat that has seen nothing stands at the number with which its desk began
begun : (first start : ℕ) (seen : List Deed) → first ≡ start → seen ≡ [] → first ≡ number_after start seen
begun first start seen is none = is ∙ sym (ap (number_after start) none)

pub run_seats-seat-requires-clause-last : goal.run_seats-seat-requires-clause-last
run_seats-seat-requires-clause-last g c = λ κs lives.
    let s = c.args.self in
    c.max-last.ensures ∙ c.open-at.ensures.at s.first
    (begun s.first (start_at s.desk).commit_number (known s.seat).seen s.begins.0 s.at.1.seen)

pub returns-clause-session : goal.returns-clause-session
returns-clause-session g c =
    let s = c.args.self in
    let start = start_at s.desk in
    let o = c.open-at in
    let r = c.run_seats-seat.result in
    let last = c.max-last.result in
    let is_last = c.max-last.ensures ∙ o.ensures.at s.first
    (begun s.first start.commit_number (known s.seat).seen s.begins.0 s.at.1.seen) in
    let k : Kinds g.row.S.Denot g.row.V.Denot g.row.M.Denot g.row.P.Denot =
    kinds g.S.Store g.V.Vault g.M.Source g.P.Sink in
    let lent : Lent g.row.V.Denot g.row.M.Denot g.row.P.Denot =
    lent_by g.A.Source g.O.Sink (change c.args.devices r.2) in
    let out = outcome o.result.0 r.1 in
    closed k start (core_of c.close.result) o.new.vault lent out (known s.seat) (known o.new.seat) (known r.0) last
    s.at.1 o.ensures.opens is_last o.ensures.untouched
    (subst (λ (t : ℕ). Sat k (sitting start t last (known o.new.seat) (known r.0))
    (record lent { vault = change o.new.vault lent.vault.now }) out) s.begins.1 c.run_seats-seat.ensures.sat)
    c.close.ensures.stands c.close.ensures.mine c.close.ensures.spent
