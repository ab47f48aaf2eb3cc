-- What was loaded is the answer.
use Rattle.editor_core.proofs.Common.{◌∙◌, sym, subst, List, Ok, after_err, LoadPin, LoadedTrack, core_of, Took}
use Rattle.editor_core.proofs.Common.{quietly}
use Rattle.pcm_base.specs.declared.answer.Reply.TheVariants as reply
use Rattle.editor_core.proofs.studio.Studio.load_reply.Goals as goal

pub tracks_of-requires : goal.tracks_of-requires
tracks_of-requires g c = c.in_ok-load_pin.ensures.loads.has.valid

pub returns : goal.returns
returns g c =
    let s = core_of c.args.self.now in
    let new = core_of c.load_pin.new.self in
    let call = LoadPin c.args.pin c.args.from c.args.count in
    subst (λ (xs : List LoadedTrack). Took g.S.Store s (quietly call (Ok (reply.Loaded xs))) new)
    (sym (c.new.ensures ∙ c.in_ok-tracks.ensures)) c.in_ok-load_pin.ensures.loads.looks.took

pub returns-in_err-load_pin : goal.returns-in_err-load_pin
returns-in_err-load_pin g c =
    let s = core_of c.args.self.now in
    let new = core_of c.load_pin.new.self in
    let call = LoadPin c.args.pin c.args.from c.args.count in
    after_err (λ r. Took g.S.Store s (quietly call r) new) _ c.from_residual.result c.from_residual.ensures.1
    c.in_err-load_pin.ensures.loads.looks.took

pub returns-in_err-tracks : goal.returns-in_err-tracks
returns-in_err-tracks g c =
    let s = core_of c.args.self.now in
    let new = core_of c.load_pin.new.self in
    let call = LoadPin c.args.pin c.args.from c.args.count in
    after_err (λ r. Took g.S.Store s (quietly call r) new) _ c.from_residual-in_err-tracks.result
    c.from_residual-in_err-tracks.ensures.1 c.in_ok-load_pin.ensures.loads.wants
