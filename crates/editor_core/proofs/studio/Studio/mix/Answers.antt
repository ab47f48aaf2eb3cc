-- Hearing the mix is a step that changes nothing.
use Rattle.editor_core.proofs.Common.{◌≡◌, ◌∙◌, sym, ap, subst, ◌+◌, ◌-◌, ℕ, IsTrue, List, Err, None, arith, true≢false}
use Rattle.editor_core.proofs.Common.{HasHeard, err_from_is_err_and, after_err, Frames, Line, mix_of, IsFaultIn}
use Rattle.editor_core.proofs.Common.{sources_of, AllNamed, AllWhole, Track, meant, point_blocks, current_tracks}
use Rattle.editor_core.proofs.Common.{core_of, Sees, IsHeld, current_may_read, current_whole, as_many, idle_sees}
use Rattle.editor_core.proofs.Common.{read_sees, unread_sees, seen}
use Rattle.pcm_base.specs.Refusals.{bad_view}
use Rattle.pcm_base.specs.{declared.command.Command.TheVariants.Mix, Edits.part}
use Rattle.editor_views.proofs.MixViews.{mix_stopped, mix_beyond, mix_done, mix_failed}
use Rattle.pcm_base.specs.declared.refusal.Refusal.TheVariants as refusal
use Rattle.editor_core.proofs.KeptPages.{of_current}
use Rattle.editor_core.proofs.studio.Studio.mix.Given.{Over}
use Rattle.editor_core.proofs.studio.Studio.mix.Goals.{After-read_mix}
use Rattle.editor_core.proofs.studio.Studio.mix.Goals as goal

-- a view that may be shown ends where it says
view_end : (from to : ℕ) → bad_view from to ≡ None → from + (to - from) ≡ to
view_end from to good = grind arith

pub returns-in-Some-clause-seen : goal.returns-in-Some-clause-seen
returns-in-Some-clause-seen g c =
    let s = core_of c.args.self.now in
    let fewer = g.met.S.Store.may_fewer s.store in
    let call = Line (Mix c.args.from c.args.to) in
    idle_sees g.S.Store s call Frames c.args.out.now fewer (refusal.Stopped c.in-Some.faults) tt tt
    (mix_stopped g.S.Store s c.requires.studio fewer c.args.from c.args.to c.in-Some.faults c.in-Some.is)

pub returns-in_err-may_view-clause-seen : goal.returns-in_err-may_view-clause-seen
returns-in_err-may_view-clause-seen g c =
    let p = err_from_is_err_and c.from_residual.result c.from_residual.ensures.1 in
    let s = core_of c.args.self.now in
    let fewer = g.met.S.Store.may_fewer s.store in
    let call = Line (Mix c.args.from c.args.to) in
    subst (λ r. Sees g.S.Store s (seen call Frames c.args.out.now r) s)
    (sym (p.1 ∙ ap Err (p.2 ∙ c.in_err-may_view.ensures.0)))
    (idle_sees g.S.Store s call Frames c.args.out.now fewer refusal.BadRange tt tt
    (mix_beyond g.S.Store s c.requires.studio fewer c.args.from c.args.to refusal.BadRange c.in_default.is
    c.in_err-may_view.ensures.1))

pub read_mix-requires-clause-named : goal.read_mix-requires-clause-named
read_mix-requires-clause-named g c =
    let s = core_of c.args.self.now in
    subst (λ (z : List Track). AllNamed (point_blocks z)) (sym c.current_of-point.ensures)
    (current_may_read g.S.Store s c.requires.studio)

pub returns-in_err-count-clause-seen : goal.returns-in_err-count-clause-seen
returns-in_err-count-clause-seen g c =
    let s = core_of c.args.self.now in
    let fewer = g.met.S.Store.may_fewer s.store in
    let call = Line (Mix c.args.from c.args.to) in
    let store = c.read_mix.new.reader.store in
    let cache = c.read_mix.new.reader.cache in
    let keeps = of_current g.S.Store s c.requires.studio cache c.current_of-point.result.now c.current_of-point.ensures
    c.in_err-count.ensures.reads.cache in
    let fault = c.in_err-count.field-0.0 in
    after_err
    (λ r. Sees g.S.Store s (seen call Frames c.read_mix.new.out r) (record s { store = store; cache = cache })) _
    c.from_residual-in_err-count.result c.from_residual-in_err-count.ensures.1
    (unread_sees g.S.Store s call store c.in_err-count.ensures.reads.kept cache Frames c.read_mix.new.out fault
    (λ held. c.in_err-count.ensures.valid held.tells
    (subst (λ (z : List Track). AllWhole (g.S.Store.reads s.store) (point_blocks z)) (sym c.current_of-point.ensures)
    (current_whole g.S.Store s c.requires.studio held)))
    (mix_failed g.S.Store s c.requires.studio fewer c.args.from c.args.to c.in_default.is store
    c.in_err-count.ensures.reads.kept cache keeps fault c.in_err-count.ensures.reads.faults
    (subst (λ (z : List Track). IsTrue (g.S.Store.tells s.store)
    → IsFaultIn (g.S.Store.reads s.store) (point_blocks z) fault) c.current_of-point.ensures
    c.in_err-count.ensures.reads.damaged)))

-- the frames of the view were heard
heard : (g : Over) (c : After-read_mix g) → bad_view c.args.from c.args.to ≡ None
    → HasHeard c.args.self.now.reader.cache c.args.from c.args.to (current_tracks (core_of c.args.self.now).history)
    → HasHeard c.args.self.now.reader.cache c.args.from (c.args.from + (c.args.to - c.args.from))
    c.current_of-point.result.now
heard g c good has = subst (λ (w : ℕ × List Track). HasHeard c.args.self.now.reader.cache c.args.from w.0 w.1)
    (λ i. (sym (view_end c.args.from c.args.to good) i, sym c.current_of-point.ensures i)) has

pub returns-in_err-count-clause-hit : goal.returns-in_err-count-clause-hit
returns-in_err-count-clause-hit g c = λ going good has.
    absurd (true≢false (sym (c.in_err-count.ensures.hit
    (heard g (goal.at.returns-in_err-count-clause-hit g c).After-read_mix good has)).0))

pub returns-clause-hit : goal.returns-clause-hit
returns-clause-hit g c = λ going good has.
    c.in_ok-count.ensures.hit (heard g (goal.at.returns-clause-hit g c).After-read_mix good has)

pub returns-clause-seen : goal.returns-clause-seen
returns-clause-seen g c =
    let s = core_of c.args.self.now in
    let fewer = g.met.S.Store.may_fewer s.store in
    let call = Line (Mix c.args.from c.args.to) in
    let store = c.read_mix.new.reader.store in
    let cache = c.read_mix.new.reader.cache in
    let keeps = of_current g.S.Store s c.requires.studio cache c.current_of-point.result.now c.current_of-point.ensures
    c.in_ok-count.ensures.reads.cache in
    let files = g.S.Store.reads s.store in
    let n = c.in_ok-count.count in
    let whole : IsHeld g.S.Store s → AllWhole files (point_blocks c.current_of-point.result.now) =
    λ held. subst (λ (z : List Track). AllWhole files (point_blocks z)) (sym c.current_of-point.ensures)
    (current_whole g.S.Store s c.requires.studio held) in
    let same = ap (λ (z : List Track). part c.args.from c.args.to (mix_of (meant (sources_of files) z)))
    c.current_of-point.ensures in
    read_sees g.S.Store s call store c.in_ok-count.ensures.reads.kept cache Frames c.read_mix.new.out n
    c.in_ok-count.ensures.fits
    (mix_done g.S.Store s c.requires.studio fewer c.args.from c.args.to c.in_default.is store
    c.in_ok-count.ensures.reads.kept cache keeps _ c.in_ok-may_view.ensures c.in_ok-count.ensures.reads.faults
    (λ held. c.in_ok-count.ensures.read held.tells (whole held)
    ∙ as_many (sources_of files) c.current_of-point.result.now c.args.from
    (c.args.to - c.args.from) n c.in_ok-count.ensures.count (c.read_mix.ensures.len (sources_of files)) ∙ same))
