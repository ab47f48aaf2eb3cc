-- Lines one after another.
use Rattle.std.proofs.Common.{List, [], ◌∷◌, length, refl, ap, ◌∙◌, arith}
use Rattle.pcm_base.specs.{declared.command.Call.TheVariants.Line, declared.command.Command.Command, Studio.Studio}
use Rattle.disk_model.specs.{Frames.asked, Room.IsWithin, Room.together, declared.store.Store.Ghosts}
use Rattle.editor_state.specs.{Core.Core, Studios.studio_of, Took.silent}
use Rattle.model_laws.proofs.Answered.{carried_is}
use Rattle.memory_project.specs.Lines.{AreCarriedOut, MayCome, MayRun, RanLines, Went, line_room, room_for}
use Rattle.memory_project.specs.Memory.{no_room}
use Rattle.memory_project.proofs.RoomLemmas.{room_less}

module _ {D : Type 0} (disk : Ghosts D) (s : Core D) (c : Command) (cs : List Command) (may : MayRun disk s (c ∷ cs))
  where
    -- the first of them may come
    pub first_comes : MayCome disk s c
    first_comes = record {
      studio = may.studio;
      held = may.held;
      size = may.size;
      kind = may.kinds.0;
      form = may.valid.0;
      valid = may.valid.1;
      few = may.few.0;
      room = room_less disk s.store line_room (room_for (length (c ∷ cs)))
          (record { files = omega arith; bytes = omega arith; calls = omega arith }) may.room;
    }

    -- and then the others may
    pub others_run : (new : Core D) → Went disk s c new → MayRun disk new cs
    others_run new went = record {
      studio = went.studio;
      held = went.held;
      size = ap (λ (z : Studio). z.block_size)
          (carried_is (studio_of disk s) (studio_of disk new) (Line c) silent went.reply went.step) ∙ may.size;
      kinds = may.kinds.1;
      valid = may.valid.3 silent went.reply (studio_of disk new) went.step;
      few = may.few.1 silent went.reply (studio_of disk new) went.step;
      room = went.room (room_for (length cs)) (room_less disk s.store (together line_room (room_for (length cs)))
          (room_for (length (c ∷ cs))) (record { files = omega arith; bytes = omega arith; calls = omega arith })
          may.room);
    }

-- What is known in the course of some lines: those that are left may run, and with them all are carried out.
pub record IsOnWay {D : Type 0} (disk : Ghosts D) (first : Core D) (all : List Command) (s : Core D)
    (left : List Command)
    : Type 0 where
  pub may : MayRun disk s left
  pub asked_so : IsWithin (together (asked disk s.store) (room_for (length left)))
      (together (asked disk first.store) (room_for (length all)))
  pub ends : (u : Studio) → AreCarriedOut (studio_of disk s) left u → AreCarriedOut (studio_of disk first) all u

module _ {D : Type 0} (disk : Ghosts D) (first : Core D) (all : List Command) where
  pub on_way_first : MayRun disk first all → IsOnWay disk first all first all
  on_way_first may = record {
    may = may;
    asked_so = record { files = omega arith; bytes = omega arith; calls = omega arith };
    ends = λ u run. run;
  }

  pub on_way_more : (s new : Core D) (c : Command) (left : List Command) → IsOnWay disk first all s (c ∷ left)
      → Went disk s c new → IsOnWay disk first all new left
  on_way_more s new c left way went = record {
    may = others_run disk s c left way.may new went;
    asked_so =
        let so = way.asked_so in
        let more = went.asked_more in
        record {
          files = omega (arith, so.files, more.files);
          bytes = omega (arith, so.bytes, more.bytes);
          calls = omega (arith, so.calls, more.calls);
        };
    ends = λ u run. way.ends u (studio_of disk new, went.reply, went.step, run);
  }

  pub on_way_last : (s : Core D) → IsOnWay disk first all s [] → RanLines disk first all s
  on_way_last s way = record {
    studio = way.may.studio;
    held = way.may.held;
    run = way.ends (studio_of disk s) refl;
    asked_more =
        let so = way.asked_so in
        record { files = omega (arith, so.files); bytes = omega (arith, so.bytes); calls = omega (arith, so.calls) };
    room = room_less disk s.store no_room (room_for 0)
        (record { files = omega arith; bytes = omega arith; calls = omega arith }) way.may.room;
  }
