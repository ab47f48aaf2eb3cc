-- Telling of the tracks changes nothing.
use Rattle.editor_core.proofs.Common.{◌≡◌, ◌⊎◌, ◌∙◌, inl, inr, refl, sym, ap, subst, ℕ, List, map, Ok, after_err, Line}
use Rattle.editor_core.proofs.Common.{line_of_track, Track, meant, core_of, Took, quietly, as_reply}
use Rattle.std.specs.Prelude.{IfErr}
use Rattle.editor_views.proofs.TrackListing.{tell_stopped, tell_wanting, told_of}
use Rattle.pcm_base.specs.declared.answer.Reply.TheVariants as reply
use Rattle.pcm_base.specs.declared.command.Command.TheVariants as command
use Rattle.pcm_base.specs.declared.refusal.Refusal.TheVariants as refusal
use Rattle.editor_core.proofs.studio.Studio.tracks.Goals as goal

pub returns-in-Some-clause-took : goal.returns-in-Some-clause-took
returns-in-Some-clause-took g c =
    let s = core_of c.args.self.now in
    tell_stopped g.S.Store s c.requires (g.met.S.Store.may_fewer s.store) c.in-Some.faults c.in-Some.is

pub returns-in-Some-clause-why : goal.returns-in-Some-clause-why
returns-in-Some-clause-why g c = inr (c.in-Some.faults, refl)

pub returns-in_err-lines-clause-took : goal.returns-in_err-lines-clause-took
returns-in_err-lines-clause-took g c =
    let s = core_of c.args.self.now in
    after_err (λ r. Took g.S.Store s (quietly (Line command.Tracks) (as_reply reply.Tracks r)) s) _
    c.from_residual.result c.from_residual.ensures.1
    (tell_wanting g.S.Store s c.requires (g.met.S.Store.may_fewer s.store))

pub returns-in_err-lines-clause-why : goal.returns-in_err-lines-clause-why
returns-in_err-lines-clause-why g c =
    after_err (λ r. IfErr r (λ e. (e ≡ refusal.NoMemory) ⊎ (faults : ℕ) × (e ≡ refusal.Stopped faults))) _
    c.from_residual.result c.from_residual.ensures.1 (inl refl)

pub returns-clause-took : goal.returns-clause-took
returns-clause-took g c =
    let s = core_of c.args.self.now in
    let lines = c.in_ok-lines.lines.items in
    subst (λ xs. Took g.S.Store s (quietly (Line command.Tracks) (Ok (reply.Tracks xs))) s) (sym c.new.ensures)
    (told_of g.S.Store s c.requires (g.met.S.Store.may_fewer s.store) lines c.in_default.is
    (λ src. c.in_ok-lines.ensures src ∙ ap (λ (z : List Track). map line_of_track (meant src z)) c.current_of.ensures))
