-- What was read is the part that the piece means.
use Rattle.std.proofs.Common.{◌≡◌, ◌-◌, map, length, subst, ap, sym, ◌∙◌, arith, rules}
use Rattle.disk_model.proofs.Frames.{kept_none}
use Rattle.pcm_base.specs.{declared.piece.Piece.Piece, Arithmetic.clamped, Arithmetic.scaled, Pieces.stretch}
use Rattle.pcm_base.specs.{Pieces.piece_len}
use Rattle.block_writer.specs.{Making.IsPart, Reading.IsReadable, Reading.IsThere}
use Rattle.block_writer.proofs.{BringLaws.old_part, BringLaws.filled_part, ReadLaws.old_read}
use Rattle.block_writer.proofs.pieces.read_piece.Goals as goal

pub returns-in_default-clause-read : goal.returns-in_default-clause-read
returns-in_default-clause-read g c = λ told there.
    let files = g.S.Store.reads c.args.store.now in
    let b = c.in-Old.block in
    let brought = g.G.Brings.brings c.args.given.now in
    let R : Piece → Type 0 = IsReadable brought.count in
    let ok = subst R c.in-Old.is c.requires.piece in
    let T : Piece → Type 0 = IsThere files in
    let whole = subst T c.in-Old.is there in
    let size : length c.args.out.now ≡ c.in-Old.to - c.in-Old.from = c.requires.len ∙ ap piece_len c.in-Old.is in
    let P : Piece → Type 0 = λ p. IsPart brought files p c.read_old.new.out in
    subst P (sym c.in-Old.is) (old_part brought files _ _ (λ given.
    old_read files b c.in-Old.from c.in-Old.to _ c.read_old.new.out ok.1 ok.2 size whole
    (λ xs e len. c.in_default.ensures.read xs told e len)))

pub returns-in_default-read_old-clause-read : goal.returns-in_default-read_old-clause-read
returns-in_default-read_old-clause-read g c = λ told there.
    let files = g.S.Store.reads c.args.store.now in
    let b = c.in-Scaled.block in
    let brought = g.G.Brings.brings c.args.given.now in
    let R : Piece → Type 0 = IsReadable brought.count in
    let ok = subst R c.in-Scaled.is c.requires.piece in
    let T : Piece → Type 0 = IsThere files in
    let whole = subst T c.in-Scaled.is there in
    let size : length c.args.out.now ≡ c.in-Scaled.to - c.in-Scaled.from =
    c.requires.len ∙ ap piece_len c.in-Scaled.is in
    let P : Piece → Type 0 = λ p. IsPart brought files p c.scale.new.out in
    subst P (sym c.in-Scaled.is) (old_part brought files _ _ (λ given.
    c.scale.ensures
    ∙ ap (map (λ s. clamped (scaled c.in-Scaled.gain s)))
    (old_read files b c.in-Scaled.from c.in-Scaled.to _ c.read_old-in-Scaled.new.out ok.1 ok.2 size whole
    (λ xs e len. c.in_default-read_old.ensures.read xs told e len))))

pub returns-in-Zero-clause-kept : goal.returns-in-Zero-clause-kept
returns-in-Zero-clause-kept g c = kept_none _ (g.met.S.Store.may_fewer _)

pub returns-in-Zero-clause-read : goal.returns-in-Zero-clause-read
returns-in-Zero-clause-read g c = λ told there.
    let files = g.S.Store.reads c.args.store.now in
    let brought = g.G.Brings.brings c.args.given.now in
    let P : Piece → Type 0 = λ p. IsPart brought files p c.fill.new.self in
    let size : length c.args.out.now ≡ c.in-Zero.len = c.requires.len ∙ ap piece_len c.in-Zero.is in
    subst P (sym c.in-Zero.is) (old_part brought files _ _ (λ given. search rules))

pub returns-in_default-fill-clause-read : goal.returns-in_default-fill-clause-read
returns-in_default-fill-clause-read g c = λ told there.
    let files = g.S.Store.reads c.args.store.now in
    let brought = g.G.Brings.brings c.args.given.now in
    let P : Piece → Type 0 = λ p. IsPart brought files p c.fill-in-Given.new.out in
    let size : length c.args.out.now ≡ c.in-Given.to - c.in-Given.from = c.requires.len ∙ ap piece_len c.in-Given.is in
    let same : length c.fill-in-Given.new.out ≡ length c.args.out.now = omega (arith, c.fill-in-Given.auto.out) in
    subst P (sym c.in-Given.is) (filled_part brought files c.in-Given.from c.in-Given.to _ (same ∙ size)
    (λ tells. c.in_default-fill.ensures.filled tells ∙ ap (stretch brought.samples c.in-Given.from) size)
    (λ quiet. c.in_default-fill.ensures.fit quiet))

pub returns-in-Err-fill-clause-kept : goal.returns-in-Err-fill-clause-kept
returns-in-Err-fill-clause-kept g c = kept_none _ (g.met.S.Store.may_fewer _)

pub returns-in_default-fill-clause-kept : goal.returns-in_default-fill-clause-kept
returns-in_default-fill-clause-kept g c = kept_none _ (g.met.S.Store.may_fewer _)
