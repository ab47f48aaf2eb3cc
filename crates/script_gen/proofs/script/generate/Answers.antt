-- One line more, and what is known of all lines.
use Rattle.std.proofs.Common.{◌+◌, ◌-◌, ◌++◌, List, subst, sym, ap, ◌∙◌, arith}
use Rattle.pcm_base.specs.declared.command.Command.{Command}
use Rattle.script_gen.specs.{Bounds.IsPlace, Script.lines_from, Script.script_of}
use Rattle.script_gen.proofs.LineLists.{lines_from-more, lines_from-none}
use Rattle.script_gen.proofs.{Places.line-bounds, Scripts.made-good}
use Rattle.script_gen.proofs.script.generate.Goals as goal

pub loop-made-preserved : goal.loop-made-preserved
loop-made-preserved c =
    let l = c.loop-made in
    let call = c.next_line-line in
    let next = call.new.self in
    let behind = lines_from (c.args.lines - (l.made + 1)) next in
    record {
      place = subst IsPlace (sym call.ensures.place)
          (line-bounds (c.args.lines - 1 - l.made) l.place l.invariant.place);
      script = ap (λ (cs : List Command). cs ++ behind) c.in_ok-push-3.ensures.items
          ∙ lines_from-more l.script.items c.args.lines l.made l.place next call.result (omega arith)
          call.ensures.line call.ensures.place
          ∙ l.invariant.script;
    }

pub returns : goal.returns
returns c =
    let l = c.loop-made in
    let number = c.args.number in
    let lines = c.args.lines in
    let script = script_of number lines in
    let all = lines_from-none l.script.items script lines l.made l.place (omega arith) l.invariant.script in
    let good = made-good number lines l.script.items c.requires.least c.requires.most all in
    record {
      script = all;
      count = good.count;
      valid = good.valid;
      run = good.run;
      needs = good.needs;
      room = good.room;
    }
