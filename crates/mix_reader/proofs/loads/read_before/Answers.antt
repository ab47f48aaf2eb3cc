-- A track that is heard stands before the others, and of a muted one nothing is read.
use Rattle.mix_reader.proofs.Common.{ℤ, ◌≡◌, ℕ, ◌+◌, ◌-◌, ◌*◌, ◌≤◌, Bool, List, length, take, drop, sym, ap, subst, ◌∙◌}
use Rattle.mix_reader.proofs.Common.{arith, length-drop, false, refl, drop-drop, length-take, if◌then◌else◌, exit_err}
use Rattle.mix_reader.proofs.Common.{Files, unmuted, meant_track, same_none, reads_err, reads_none, reads_ok, stored_of}
use Rattle.mix_reader.proofs.Common.{seen_part, IsStretch, AreStretches, Sources}
use Rattle.mix_reader.proofs.TrackLaws.{stretch_put, unmuted_loud}
use Rattle.std.proofs.lemmas.Slice.{take-put_mid_below}
use borrow.Rule.Slice.PartMut.{put_mid}
use Rattle.pcm_base.specs.Cells as cells
use Rattle.mix_reader.proofs.loads.read_before.Goals as goal

pub returns-then-track-clause-reads : goal.returns-then-track-clause-reads
returns-then-track-clause-reads g c = reads_none _ (g.met.S.Store.may_fewer _)

-- a stretch is as long as it has to be
size_of : (len end at : ℕ) (mute : Bool) (xs : List ℤ) → mute ≡ false → (if mute then 0 else 1) * len ≤ end
    → end ≤ length xs → at ≡ end - len → length (take (end - at) (drop at xs)) ≡ len
size_of len end at mute xs loud room within place =
    let heard : (if mute then 0 else 1) * len ≡ 1 * len = ap (λ (b : Bool). (if b then 0 else 1) * len) loud in
    omega (arith, length-take (end - at) (drop at xs), length-drop at xs, heard, room, within, place)

pub returns-clause-stored : goal.returns-clause-stored
returns-clause-stored g c = λ told ts are.
    let len : ℕ = c.args.len in
    let end : ℕ = c.args.end in
    let at : ℕ = end - len in
    let xs : List ℤ = c.args.samples.now in
    let files : Files = g.S.Store.reads c.args.reader.now.store in
    let t : cells.Track = meant_track (stored_of files) c.args.track.now in
    let heard : (if c.args.track.now.mute then 0 else 1) * len ≡ 1 * len =
    ap (λ (b : Bool). (if b then 0 else 1) * len) c.if-track.false in
    let fits : len ≤ end = omega (arith, heard, c.requires.room) in
    let size : length (take (end - at) (drop at xs)) ≡ len =
    size_of len end at c.args.track.now.mute xs c.if-track.false c.requires.room c.requires.within refl in
    let Q : ℕ → Type 0 = λ n. IsStretch c.args.from n t c.read_once.new.out in
    let place : at + len ≡ end = omega (arith, fits) in
    let R : List ℤ → Type 0 = λ cs. AreStretches c.args.from len (unmuted ts) cs in
    let back : drop end xs ≡ drop len (drop at xs) =
    ap (λ n. drop n xs) (sym place) ∙ sym (drop-drop len at xs) in
    let S : cells.Project → Type 0 =
    λ p. AreStretches c.args.from len p (drop at (put_mid at (end - at) xs c.read_once.new.out)) in
    subst S (sym (unmuted_loud (stored_of files) c.args.track.now ts c.if-track.false))
    (stretch_put c.args.from len at (end - at) xs c.read_once.new.out t (unmuted ts)
    (omega (arith, fits, c.requires.within)) (c.read_once.auto.out ∙ size) (omega (arith, fits))
    (subst Q size (c.in_ok-read_once.ensures.stored told)) (subst R back are))

pub returns-in_err-read_once-clause-reads : goal.returns-in_err-read_once-clause-reads
returns-in_err-read_once-clause-reads g c =
    rw (exit_err c.from_residual.result c.from_residual.ensures.1) (reads_err c.in_err-read_once.ensures.reads)

pub returns-clause-reads : goal.returns-clause-reads
returns-clause-reads g c = reads_ok {y = c.args.end - c.args.len} c.in_ok-read_once.ensures.reads

pub returns-then-track-clause-hit : goal.returns-then-track-clause-hit
returns-then-track-clause-hit g c = λ has. (refl, refl, same_none _)

pub returns-in_err-read_once-clause-hit : goal.returns-in_err-read_once-clause-hit
returns-in_err-read_once-clause-hit g c =
    let a = c.args in
    let at : ℕ = a.end - a.len in
    let xs : List ℤ = a.samples.now in
    let size = size_of a.len a.end at a.track.now.mute xs c.if-track.false c.requires.room c.requires.within refl in
    rw (exit_err c.from_residual.result c.from_residual.ensures.1)
    (λ has. c.in_err-read_once.ensures.hit (seen_part a.reader.now.cache a.from (a.from + a.len)
    a.from (a.from + length (take (a.end - at) (drop at xs))) a.track.now.layout (omega arith)
    (omega (arith, size)) (has c.if-track.false)))

pub returns-clause-hit : goal.returns-clause-hit
returns-clause-hit g c = λ has.
    let a = c.args in
    let at : ℕ = a.end - a.len in
    let xs : List ℤ = a.samples.now in
    let size = size_of a.len a.end at a.track.now.mute xs c.if-track.false c.requires.room c.requires.within refl in
    c.in_ok-read_once.ensures.hit (seen_part a.reader.now.cache a.from (a.from + a.len)
    a.from (a.from + length (take (a.end - at) (drop at xs))) a.track.now.layout (omega arith)
    (omega (arith, size)) (has c.if-track.false))

-- it stands there already
pub returns-then-is_there-clause-reads : goal.returns-then-is_there-clause-reads
returns-then-is_there-clause-reads g c = reads_none _ (g.met.S.Store.may_fewer _)

pub returns-then-is_there-clause-hit : goal.returns-then-is_there-clause-hit
returns-then-is_there-clause-hit g c = λ has. (refl, refl, same_none _)

pub returns-then-is_there-clause-stored : goal.returns-then-is_there-clause-stored
returns-then-is_there-clause-stored g c = λ told ts are.
    let len : ℕ = c.args.len in
    let end : ℕ = c.args.end in
    let at : ℕ = end - len in
    let xs : List ℤ = c.args.samples.now in
    let src : Sources = stored_of (g.S.Store.reads c.args.reader.now.store) in
    let heard : (if c.args.track.now.mute then 0 else 1) * len ≡ 1 * len =
    ap (λ (b : Bool). (if b then 0 else 1) * len) c.if-track.false in
    let place : at + len ≡ end = omega (arith, heard, c.requires.room) in
    let R : List ℤ → Type 0 = λ cs. AreStretches c.args.from len (unmuted ts) cs in
    let back : drop end xs ≡ drop len (drop at xs) =
    ap (λ n. drop n xs) (sym place) ∙ sym (drop-drop len at xs) in
    let S : cells.Project → Type 0 = λ p. AreStretches c.args.from len p (drop at xs) in
    subst S (sym (unmuted_loud src c.args.track.now ts c.if-track.false))
    (c.requires.there told c.if-track.false c.if-is_there.true, subst R back are)

pub returns-clause-before : goal.returns-clause-before
returns-clause-before g c =
    take-put_mid_below (c.args.end - c.args.len) _ c.args.samples.now c.read_once.new.out (c.args.end - c.args.len)
    (omega arith) (omega (arith, c.requires.within))
