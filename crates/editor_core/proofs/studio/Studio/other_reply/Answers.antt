-- Each call is a step by its own.
use Rattle.editor_core.proofs.Common.{◌∙◌, List, ap, core_of, refl, sym}
use Rattle.pcm_base.specs.declared.command.Call.TheVariants as call
use Rattle.editor_core.proofs.Replies.{replied_call}
use Rattle.editor_core.proofs.studio.Studio.other_reply.Goals as goal

pub returns-in-Piece : goal.returns-in-Piece
returns-in-Piece g c = record {
  took = replied_call g.S.Store (core_of c.args.self.now) (core_of c.piece.new.self)
      (c.in-Piece.is ∙ ap (call.Piece c.in-Piece.track c.in-Piece.tag) (sym c.as_slice.ensures)) c.done.ensures
      c.piece.ensures.took;
}

pub returns-in-Pin : goal.returns-in-Pin
returns-in-Pin g c = record {
  took = replied_call g.S.Store (core_of c.args.self.now) (core_of c.pin.new.self) c.in-Pin.is c.pinned.ensures
      c.pin.ensures.took;
}

pub returns-in-PinLen : goal.returns-in-PinLen
returns-in-PinLen g c = record {
  took = replied_call g.S.Store (core_of c.args.self.now) (core_of c.args.self.now) c.in-PinLen.is c.length.ensures
      c.pin_len.ensures.took;
}

pub returns-in-ReadPin : goal.returns-in-ReadPin
returns-in-ReadPin g c = record {
  took = replied_call g.S.Store (core_of c.args.self.now) (core_of c.read_reply.new.self) c.in-ReadPin.is refl
      c.read_reply.ensures;
}

pub returns-in-LoadPin : goal.returns-in-LoadPin
returns-in-LoadPin g c = record {
  took = replied_call g.S.Store (core_of c.args.self.now) (core_of c.load_reply.new.self) c.in-LoadPin.is refl
      c.load_reply.ensures;
}

pub returns-in-Unpin : goal.returns-in-Unpin
returns-in-Unpin g c = record {
  took = replied_call g.S.Store (core_of c.args.self.now) (core_of c.unpin.new.self) c.in-Unpin.is c.let_go.ensures
      c.unpin.ensures.took;
}
