-- The script of a number on a fresh project.
use Rattle.std.proofs.Common.{◌≡◌, ℕ, List, length, Result, Ok, Err, IfOk, OnOk, sym, ap, ◌∙◌, subst, arith}
use Rattle.std.specs.List.{AllByRecursion}
use Rattle.pcm_base.specs.{declared.command.Command.Command, declared.failed.NoMemory.NoMemory}
use Rattle.disk_model.specs.declared.store.Store.{Ghosts}
use Rattle.editor_state.specs.{Core.Core, Studios.studio_of}
use Rattle.script_gen.specs.{Room.EachNeedsAtMost, Room.script_project, Script.script_of, Validity.AreAlwaysValid}
use Rattle.script_gen.specs.{Validity.AreValid}
use Rattle.script_text.specs.declared.summary.Summary.{Summary}
use Rattle.memory_project.specs.Lines.{AreCarriedOut, IsOfScript, MayRun, RanLines, room_for}
use Rattle.memory_project.specs.Sums.{IsSumOf, Looked, MaySum, RanScript, project_for}
use Rattle.memory_project.specs.{declared.fresh.FreshProject.FreshProject, Fresh.IsFresh, Fresh.left_behind}
use Rattle.memory_project.proofs.EndLemmas.{carried_run, script_end, script_kinds}
use Rattle.memory_project.proofs.RoomLemmas.{room_less}
use Rattle.pcm_base.specs.Studio as model

module _ {D : Type 0} (disk : Ghosts D) (number lines : ℕ) {start : Core D} {p : FreshProject}
    (same : p ≡ project_for lines) (made : IsFresh disk p start) {cs ds : List Command} (value : ds ≡ cs)
    (is : cs ≡ script_of number lines) (count : length cs ≡ lines) (valid : AreAlwaysValid cs)
    (few : EachNeedsAtMost script_project cs 11 6872) where
  fresh : IsFresh disk (project_for lines) start
  fresh = subst (λ (x : FreshProject). IsFresh disk x start) same made

  pub script_runs : MayRun disk start ds
  script_runs = subst (MayRun disk start) (sym value) (record {
    studio = fresh.studio;
    held = fresh.held;
    size = ap (λ (z : model.Studio). z.block_size) fresh.is;
    kinds = subst (AllByRecursion IsOfScript) (sym is) (script_kinds number lines);
    valid = subst (λ (z : model.Studio). AreValid z cs) (sym fresh.is) (valid 8000 512 64 (omega arith));
    few = subst (λ (z : model.Studio). EachNeedsAtMost z cs 11 6872) (sym fresh.is) few;
    room = room_less disk start.store (room_for (length cs)) (left_behind 10 (project_for lines))
        (record { files = omega (arith, count); bytes = omega (arith, count); calls = omega (arith, count) })
        fresh.room;
  })

  module _ {end : Core D} (went : RanLines disk start ds end) where
    ran : RanLines disk start cs end
    ran = subst (λ (x : List Command). RanLines disk start x end) value went

    carried : AreCarriedOut script_project (script_of number lines) (studio_of disk end)
    carried = subst (λ (ls : List Command). AreCarriedOut script_project ls (studio_of disk end)) is
        (subst (λ (z : model.Studio). AreCarriedOut z cs (studio_of disk end)) fresh.is ran.run)

    pub script_sums : MaySum disk end
    script_sums =
        let last = script_end number lines (studio_of disk end) carried in
        record { studio = ran.studio; held = ran.held; going = last.going; track = last.track; room = ran.room }

    script_ran : (last : Core D) (sum : Summary) → Looked disk end last → IsSumOf disk number lines last sum
        → RanScript disk number lines sum
    script_ran last sum looked is_sum =
        let to = carried_run script_project (script_of number lines) (studio_of disk end)
        (script_kinds number lines) carried in
        record {
          end = last;
          studio = looked.studio;
          held = looked.held;
          run = to.run;
          ends = to.ends ∙ sym looked.same;
          room = looked.room;
          asked_few =
              let last_asks = looked.asked_none in
              let lines_ask = ran.asked_more in
              let few = fresh.asked_few in
              record {
                files = omega (arith, count, last_asks.files, lines_ask.files, few.files);
                bytes = omega (arith, count, last_asks.bytes, lines_ask.bytes, few.bytes);
                calls = omega (arith, count, last_asks.calls, lines_ask.calls, few.calls);
              };
          sum_is = is_sum;
        }

    pub sum_ran : (last : Core D) (result : Result Summary NoMemory) → IfOk result (IsSumOf disk number lines last)
        → OnOk result (Looked disk end last) → IfOk result (RanScript disk number lines)
    sum_ran last (Ok sum) is_sum looked = script_ran last sum looked is_sum
    sum_ran last (Err e) is_sum looked = tt
