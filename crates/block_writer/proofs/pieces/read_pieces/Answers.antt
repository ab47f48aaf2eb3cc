-- One piece more is read.
use Rattle.std.proofs.Common.{◌≡◌, ◌+◌, ◌≤◌, ℤ, List, [], ◌∷◌, ◌++◌, length, take, drop, get_or, refl, sym, ap, subst}
use Rattle.std.proofs.Common.{◌∙◌, arith, inr, append-nil}
use Rattle.std.proofs.lemmas.List.{drop_more, drop_all, take_all}
use Rattle.std.proofs.{lemmas.Slice.take-put_mid, lemmas.Grind.common_steps}
use Rattle.disk_model.specs.Disk.{Files}
use Rattle.disk_model.proofs.Frames.{tells_on, kept_none, kept_turn}
use Rattle.pcm_base.specs.{declared.piece.Piece.Piece, declared.piece.Piece.TheVariants.Old, Pieces.total}
use Rattle.pcm_base.proofs.Pieces.{length-samples}
use Rattle.sample_block.specs.Sources.{sources_with}
use Rattle.block_store.specs.Reads.{IsCompared}
use Rattle.block_writer.specs.Reading.{AllReadable, AllThere, IsThere, IsFaultAmong}
use Rattle.block_writer.specs.{Brought.Brought, Making.IsPart}
use Rattle.block_writer.proofs.BringLaws.{EachPart, each_more, joined_parts}
use Rattle.block_writer.proofs.pieces.read_pieces.Goals as goal

pub pieces-init : goal.pieces-init
pieces-init g c = record {
  left = omega arith;
  ok = c.requires.pieces;
  kept = kept_none _ (g.met.S.Store.may_fewer _);
  still = record { same = refl; goes = λ first h. h };
  compared = λ told. tt;
  count = refl;
  changes = refl;
  brought = refl;
  rest_there = λ h. h;
  rest_fault = λ why h. h;
  read = λ told there rest each. each;
}

pub pieces-preserved : goal.pieces-preserved
pieces-preserved g c =
    let ps = c.args.pieces.now in
    let i = c.pieces.piece-index in
    let none : Piece = Old (record { id = 0; len = 0 }) 0 0 in
    let p : Piece = get_or ps i none in
    let rest = drop (i + 1) ps in
    let inv = c.pieces.invariant in
    let files : Files = g.S.Store.reads c.args.store.now in
    let brought : Brought = g.G.Brings.brings c.args.given.now in
    let e : drop i ps ≡ p ∷ rest = drop_more ps i none c.pieces-test.true in
    let sum = ap total e in
    let R : List Piece → Type 0 = AllReadable brought.count in
    let T : List Piece → Type 0 = AllThere files in
    let bound : c.pieces.done + c.piece_len.result ≤ length c.pieces.out =
    omega (arith, sum, inv.left, c.piece_len.ensures) in
    record {
      left = let left = inv.left in let size = c.piece_len.ensures in grind (arith, common_steps);
      ok = (subst R e inv.ok).1;
      kept = kept_turn inv.kept c.read_piece.ensures.kept;
      still = record {
        same = c.read_piece.ensures.still.same ∙ inv.still.same;
        goes = λ first h. c.read_piece.ensures.still.goes first (inv.still.goes first h);
      };
      compared = λ told.
          let still = tells_on inv.kept told in
          subst (λ (f : Files). IsCompared f c.read_piece.new.last) inv.kept.same_reads
          (c.read_piece.ensures.compared still);
      count = c.in_default.ensures.faults.0 ∙ inv.count;
      changes = c.in_default.ensures.faults.1 ∙ inv.changes;
      brought = c.in_default.ensures.given ∙ inv.brought;
      rest_there = λ h. (subst T e (inv.rest_there h)).1;
      rest_fault = λ why f.
          let F : List Piece → Type 0 = λ qs. IsFaultAmong files qs why in
          inv.rest_fault why (subst F (sym e) (inr f));
      read = λ told there.
          let still = tells_on inv.kept told in
          let here : IsThere files p = (subst T e (inv.rest_there there)).0 in
          let W : Files → Type 0 = λ f. IsThere f p in
          let G : Files → Type 0 = λ f. IsPart (g.G.Brings.brings c.pieces.given) f p c.read_piece.new.out in
          let B : Brought → Type 0 = λ b. IsPart b files p c.read_piece.new.out in
          let got : IsPart brought files p c.read_piece.new.out =
          subst B inv.still.same (subst G inv.kept.same_reads
          (c.in_default.ensures.read still (subst W (sym inv.kept.same_reads) here))) in
          let long : c.pieces.done + c.piece_len.result ≡ c.pieces.done + length c.read_piece.new.out =
          omega (arith, ap length got.is, length-samples (sources_with files got.given) p, c.piece_len.ensures) in
          let E : List Piece → Type 0 = λ qs. (more : List ℤ) → EachPart brought files qs more
          → EachPart brought files ps (take c.pieces.done c.pieces.out ++ more) in
          each_more brought files c.pieces.done c.pieces.out _ c.read_piece.new.out p rest ps
          (subst E e (inv.read told there)) got
          (take-put_mid c.pieces.done _ c.pieces.out c.read_piece.new.out (c.pieces.done + c.piece_len.result) long
          (omega (arith, bound)));
    }

pub returns-clause-read : goal.returns-clause-read
returns-clause-read g c = λ told there.
    let ps = c.args.pieces.now in
    let inv = c.pieces.invariant in
    let files : Files = g.S.Store.reads c.args.store.now in
    let brought : Brought = g.G.Brings.brings c.args.given.now in
    let end : drop c.pieces.piece-index ps ≡ [] = drop_all c.pieces.piece-index ps (omega arith) in
    let all : length c.pieces.out ≤ c.pieces.done = omega (arith, ap total end, inv.left) in
    let E : List Piece → Type 0 = λ qs. EachPart brought files qs [] in
    let each = inv.read told there [] (subst E (sym end) refl) in
    let X : List ℤ → Type 0 = λ xs. EachPart brought files ps xs in
    joined_parts brought files 0 brought.count ps c.pieces.out c.requires.order
    (subst X (append-nil (take c.pieces.done c.pieces.out) ∙ take_all c.pieces.done c.pieces.out all) each)
