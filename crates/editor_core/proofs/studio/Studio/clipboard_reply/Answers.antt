-- Each line that uses the clipboard is a step by the call that is its own.
use Rattle.editor_core.proofs.Common.{ℕ, [], subst, Done, Line, RunRange, cut_line, core_of, Took, quietly, as_reply}
use Rattle.pcm_base.specs.declared.edits.Removing.TheVariants.{Close, Leave}
use Rattle.pcm_base.specs.Form.{IsInForm}
use Rattle.editor_core.proofs.Replies.{replied}
use Rattle.editor_core.proofs.studio.Studio.clipboard_reply.Goals as goal

pub returns-in-Cut : goal.returns-in-Cut
returns-in-Cut g c =
    let s = core_of c.args.self.now in
    let cut = c.cut_range in
    let new = core_of cut.new.self in
    replied g.S.Store s new [] c.in-Cut.is c.done.ensures (subst (λ (range : RunRange).
    Took g.S.Store s (quietly (Line (cut_line Close range)) (as_reply (λ (n : ℕ). Done) cut.result)) new)
    c.run_range-range.ensures cut.ensures.took)

pub returns-in-SplitCut : goal.returns-in-SplitCut
returns-in-SplitCut g c =
    let s = core_of c.args.self.now in
    let cut = c.cut_range-in-SplitCut in
    let new = core_of cut.new.self in
    replied g.S.Store s new [] c.in-SplitCut.is c.done-in-SplitCut.ensures (subst (λ (range : RunRange).
    Took g.S.Store s (quietly (Line (cut_line Leave range)) (as_reply (λ (n : ℕ). Done) cut.result)) new)
    c.run_range-range-in-SplitCut.ensures cut.ensures.took)

pub returns-in-Copy : goal.returns-in-Copy
returns-in-Copy g c =
    replied g.S.Store (core_of c.args.self.now) (core_of c.copy.new.self) [] c.in-Copy.is
    c.copied.ensures c.copy.ensures.took

pub returns-in-Paste : goal.returns-in-Paste
returns-in-Paste g c =
    replied g.S.Store (core_of c.args.self.now) (core_of c.paste_strips.new.self) [] c.in-Paste.is
    c.done-in-Paste.ensures c.paste_strips.ensures.took

pub returns-in-PasteOver : goal.returns-in-PasteOver
returns-in-PasteOver g c =
    replied g.S.Store (core_of c.args.self.now) (core_of c.paste_strips-in-PasteOver.new.self) [] c.in-PasteOver.is
    c.done-in-PasteOver.ensures c.paste_strips-in-PasteOver.ensures.took

pub paste_strips-requires-clause-in_form : goal.paste_strips-requires-clause-in_form
paste_strips-requires-clause-in_form g c = (subst IsInForm c.in-Paste.is c.requires.in_form).1
