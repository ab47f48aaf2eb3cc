-- A copy is a step.
use Rattle.editor_core.proofs.Common.{refl, sym, ap, ◌∙◌, subst, List, Err, Ok, err_from_is_err_and, after_err, Line}
use Rattle.editor_core.proofs.Common.{counts_of, IsUndamaged, Track, RunRange, run_of, strips_blocks, Core, lacks, Took}
use Rattle.editor_core.proofs.Common.{quietly, as_reply, core_of, named_there}
use Rattle.std.specs.Prelude.{IfErr}
use Rattle.pcm_base.specs.{declared.answer.Reply.TheVariants.Copied}
use Rattle.editor_tracks.specs.Copies.{Copies, AnswersCopy}
use Rattle.editor_tracks.proofs.CopySteps.{clip_counted, clip_room, clip_single, copy_done, copy_lacks, copy_refused}
use Rattle.editor_tracks.proofs.CopySteps.{copy_stopped, strips_few, strips_named}
use Rattle.editor_commits.proofs.CallsWithoutReads.{copies_tell}
use Rattle.pcm_base.specs.declared.command.Command.TheVariants as command
use Rattle.pcm_base.specs.declared.refusal.Refusal.TheVariants as refusal
use Rattle.editor_core.proofs.studio.Studio.copy.Goals as goal
use Rattle.layout_uses.specs.Tallies.{uses_of}

pub returns-in-Some-clause-took : goal.returns-in-Some-clause-took
returns-in-Some-clause-took g c =
    let range : RunRange =
    record { track = c.args.track; count = c.args.count; from = c.args.from; to = c.args.to } in
    let s = core_of c.args.self.now in
    copy_stopped g.S.Store s c.requires range (g.met.S.Store.may_fewer s.store) c.in-Some.faults c.in-Some.is

pub returns-in_err-layout_of : goal.returns-in_err-layout_of
returns-in_err-layout_of g c =
    let range : RunRange =
    record { track = c.args.track; count = c.args.count; from = c.args.from; to = c.args.to } in
    let p = err_from_is_err_and c.from_residual.result c.from_residual.ensures.1 in
    let s = core_of c.args.self.now in record {
      took =
          let call = Line (command.Copy c.args.track c.args.count c.args.from c.args.to) in
          subst (λ r. Took g.S.Store s (quietly call (as_reply (λ (u : Unit {0}). Copied) r)) s)
          (sym (p.1 ∙ ap Err (p.2 ∙ c.in_err-layout_of.ensures.0)))
          (copy_lacks g.S.Store s c.requires range (g.met.S.Store.may_fewer s.store)
          (refusal.NoTrack c.args.track) c.in_default.is (ap (lacks c.args.track) c.in_err-layout_of.ensures.1));
      copied = after_err (λ r. AnswersCopy s range r s) _ c.from_residual.result c.from_residual.ensures.1 refl;
      undamaged = subst (λ r. IfErr r IsUndamaged) (sym (p.1 ∙ ap Err (p.2 ∙ c.in_err-layout_of.ensures.0))) tt;
    }

pub returns-in_err-strips : goal.returns-in_err-strips
returns-in_err-strips g c =
    let range : RunRange =
    record { track = c.args.track; count = c.args.count; from = c.args.from; to = c.args.to } in
    let s = core_of c.args.self.now in
    let why = c.in_err-strips.field-0.0 in record {
      took =
          let call = Line (command.Copy c.args.track c.args.count c.args.from c.args.to) in
          let refuses =
          subst (λ (z : List Track). Copies (run_of c.args.track z) range (Err why))
          c.current_of.ensures c.in_err-strips.ensures in
          after_err (λ r. Took g.S.Store s (quietly call (as_reply (λ (u : Unit {0}). Copied) r)) s) _
          c.from_residual-in_err-strips.result c.from_residual-in_err-strips.ensures.1
          (copy_refused g.S.Store s c.requires range (g.met.S.Store.may_fewer
          s.store) c.in_ok-layout_of.field-0.now c.in_ok-layout_of.ensures c.in_default.is why refuses);
      copied =
          after_err (λ r. AnswersCopy s range r s) _ c.from_residual-in_err-strips.result
          c.from_residual-in_err-strips.ensures.1 refl;
      undamaged =
          after_err (λ r. IfErr r IsUndamaged) _ c.from_residual-in_err-strips.result
          c.from_residual-in_err-strips.ensures.1
          (copies_tell
          (run_of c.args.track c.current_of.result.now) c.args.count c.args.from c.args.to why c.in_err-strips.ensures);
    }

pub take_clip-requires : goal.take_clip-requires
take_clip-requires g c =
    let range : RunRange =
    record { track = c.args.track; count = c.args.count; from = c.args.from; to = c.args.to } in
    let s = core_of c.args.self.now in
    let v = c.in_ok-strips.strips in
    let copies = subst (λ (z : List Track). Copies (run_of c.args.track z) range (Ok v))
    c.current_of.ensures c.in_ok-strips.ensures in record {
      there =
          named_there g.S.Store s c.requires (strips_blocks v)
          (strips_named g.S.Store s c.requires range (g.met.S.Store.may_fewer
          s.store) c.in_ok-layout_of.field-0.now c.in_ok-layout_of.ensures c.in_default.is v copies);
      room = clip_room g.S.Store (core_of c.args.self.now) c.requires;
      few =
          strips_few g.S.Store s c.requires range (g.met.S.Store.may_fewer s.store)
          c.in_ok-layout_of.field-0.now c.in_ok-layout_of.ensures c.in_default.is v copies;
      named = record {
        all = clip_counted g.S.Store (core_of c.args.self.now) c.requires;
        singles = clip_single g.S.Store (core_of c.args.self.now) c.requires;
      };
    }

pub returns-clause-took : goal.returns-clause-took
returns-clause-took g c =
    let range : RunRange =
    record { track = c.args.track; count = c.args.count; from = c.args.from; to = c.args.to } in
    let s = core_of c.args.self.now in
    let v = c.in_ok-strips.strips in
    let call = Line (command.Copy c.args.track c.args.count c.args.from c.args.to) in
    let copies = subst (λ (z : List Track). Copies (run_of c.args.track z) range (Ok v))
    c.current_of.ensures c.in_ok-strips.ensures in
    subst (λ (z : Core g.row.S.Denot). Took g.S.Store s (quietly call (Ok Copied)) z) (sym c.take_clip.ensures.fields)
    (copy_done g.S.Store s c.requires range (g.met.S.Store.may_fewer s.store)
    c.in_ok-layout_of.field-0.now c.in_ok-layout_of.ensures c.in_default.is v copies
    (uses_of c.take_clip.new.self.tally) (counts_of c.take_clip.new.self.tally.ledger) c.take_clip.ensures.moves
    c.take_clip.ensures.single c.take_clip.ensures.most)

pub returns-clause-copied : goal.returns-clause-copied
returns-clause-copied g c =
    let range : RunRange =
    record { track = c.args.track; count = c.args.count; from = c.args.from; to = c.args.to } in
    let v = c.in_ok-strips.strips in
    let copies = subst (λ (z : List Track). Copies (run_of c.args.track z) range (Ok v))
    c.current_of.ensures c.in_ok-strips.ensures in
    (v, copies.1, c.take_clip.ensures.fields)
