-- One track more is read, from the last to the first.
use Rattle.mix_reader.proofs.Common.{ℤ, ◌≡◌, ℕ, ◌+◌, ◌-◌, ◌*◌, ◌≤◌, ◌<◌, List, ◌∷◌, length, take, drop, get_or, sym, ap}
use Rattle.mix_reader.proofs.Common.{subst, ◌∙◌, arith, length-drop, slice_get, Some, false, refl, drop_all, drop-drop}
use Rattle.mix_reader.proofs.Common.{length-take, take_all, Files, Project, unmuted, layout_blocks, Track, meant}
use Rattle.mix_reader.proofs.Common.{meant_track, point_blocks, drop_some, same_none, same_turn, reads_more, reads_none}
use Rattle.mix_reader.proofs.Common.{reads_then, told_on, stored_of, IsRestOf, TrackPass, heard_tracks, IsStretch}
use Rattle.mix_reader.proofs.Common.{AreStretches, seen_part}
use Rattle.std.proofs.lemmas.Option.{get_or_from_slice_get}
use Rattle.mix_reader.proofs.PageLaws.{heard_at}
use Rattle.mix_reader.proofs.TrackLaws.{blocks_at, rests_at, rests_set, stretch_put, heard_count_more, heard_count_same}
use Rattle.mix_reader.proofs.TrackLaws.{unmuted_loud, unmuted_silent}
use borrow.Rule.Slice.PartMut.{put_mid}
use Rattle.mix_reader.proofs.stretches.read_stretches.Goals as goal

-- where the stretch of a track that is heard begins, and where it ends
track_place : (ts : List Track) (i k at len : ℕ) (t : Track) → slice_get ts k ≡ Some t → t.mute ≡ false → k + 1 ≡ i
    → at ≡ length (heard_tracks (take i ts)) * len → at ≡ length (heard_tracks (take k ts)) * len + len
track_place ts i k at len t e loud next place =
    let count : ℕ = length (heard_tracks (take k ts)) in
    let more : (count + 1) * len ≡ count * len + len = omega arith in
    place ∙ ap (λ (n : ℕ). length (heard_tracks (take n ts)) * len) (sym next)
    ∙ ap (λ (n : ℕ). n * len) (heard_count_more ts k t e loud) ∙ more

pub rows-init : goal.rows-init
rows-init g c =
    let P : List Track
    → Type 0 = λ ts. AreStretches c.args.from c.args.len
    (unmuted (meant (stored_of (g.S.Store.reads c.args.reader.now.store)) ts))
    (drop (length c.args.samples.now) c.args.samples.now) in
    record {
      within = omega (arith, c.len-i.ensures.value);
      place = c.requires.room
          ∙ ap (λ (ts : List Track). length (heard_tracks ts) * c.args.len)
          (sym (take_all c.len-i.result c.args.point.now (omega (arith, c.len-i.ensures.value))));
      fits = omega arith;
      rests = c.requires.rests;
      reads = reads_none tt (g.met.S.Store.may_fewer _);
      hit = λ has. (refl, same_none _);
      stored =
          λ told. subst P (sym (drop_all c.len-i.result c.args.point.now (omega (arith, c.len-i.ensures.value)))) tt;
    }

pub overflow_sub-at : goal.overflow_sub-at
overflow_sub-at g c =
    let k = c.rows.i - 1 in
    let next : k + 1 ≡ c.rows.i = omega (arith, c.rows-test.true) in
    omega (
      arith,
      track_place c.args.point.now c.rows.i k c.rows.at c.args.len c.track_at-track.result.now
          c.track_at-track.ensures c.if-track.false next c.rows.invariant.place,
    )

pub slice_bounds-read_track-end : goal.slice_bounds-read_track-end
slice_bounds-read_track-end g c =
    let k = c.rows.i - 1 in
    let next : k + 1 ≡ c.rows.i = omega (arith, c.rows-test.true) in
    let place = track_place c.args.point.now c.rows.i k c.rows.at c.args.len c.track_at-track.result.now
    c.track_at-track.ensures c.if-track.false next c.rows.invariant.place in
    omega (arith, place, c.rows.invariant.fits)

pub read_track-requires-clause-rest : goal.read_track-requires-clause-rest
read_track-requires-clause-rest g c =
    let k = c.rows.i - 1 in
    let t : Track = c.track_at-track.result.now in
    let p : TrackPass = c.index-passes-i.result in
    let below : k < length c.args.point.now = omega (arith, c.rows.invariant.within, c.rows-test.true) in
    let I : Track → Type 0 = λ u. IsRestOf c.args.from u.layout (get_or c.rows.passes k p).rest in
    subst I (get_or_from_slice_get c.args.point.now k t t c.track_at-track.ensures)
    (rests_at c.args.from c.args.point.now c.rows.passes k t p below c.rows.invariant.rests)

pub returns-in-Err-clause-rests : goal.returns-in-Err-clause-rests
returns-in-Err-clause-rests g c =
    let k = c.rows.i - 1 in
    let ts : List Track = c.args.point.now in
    let t : Track = c.track_at-track.result.now in
    let I : Track → Type 0 = λ u. IsRestOf c.args.from u.layout c.read_track.new.left.rest in
    rests_set c.args.from ts c.rows.passes k t c.read_track.new.left
    (omega (arith, c.rows.invariant.within, c.rows-test.true)) c.rows.invariant.rests
    (subst I (sym (get_or_from_slice_get ts k t t c.track_at-track.ensures)) c.read_track.ensures.rest)

pub rows-preserved : goal.rows-preserved
rows-preserved g c =
    let ts : List Track = c.args.point.now in
    let k = c.rows.i - 1 in
    let len = c.args.len in
    let at : ℕ = c.rows.at - len in
    let t : Track = c.track_at-track.result.now in
    let inv = c.rows.invariant in
    let loud = c.if-track.false in
    let files : Files = g.S.Store.reads c.args.reader.now.store in
    let below : k < length ts = omega (arith, inv.within, c.rows-test.true) in
    let next : k + 1 ≡ c.rows.i = omega (arith, c.rows-test.true) in
    let e : drop k ts ≡ t ∷ drop c.rows.i ts =
    drop_some ts k t c.track_at-track.ensures ∙ ap (λ n. t ∷ drop n ts) next in
    let place = track_place ts c.rows.i k c.rows.at len t c.track_at-track.ensures loud next inv.place in
    let fits : at + len ≤ length c.rows.samples = omega (arith, place, inv.fits) in
    let size : length (take (at + len - at) (drop at c.rows.samples)) ≡ len =
    omega (arith, length-take (at + len - at) (drop at c.rows.samples), length-drop at c.rows.samples, fits) in
    let I : Track → Type 0 = λ u. IsRestOf c.args.from u.layout c.read_track.new.left.rest in
    record {
      within = omega (arith, below);
      place = omega (arith, place);
      fits = omega (arith, fits);
      rests = rests_set c.args.from ts c.rows.passes k t c.read_track.new.left below inv.rests
          (subst I (sym (get_or_from_slice_get ts k t t c.track_at-track.ensures)) c.read_track.ensures.rest);
      reads = reads_then {x = tt} inv.reads (reads_more (layout_blocks t.layout) (point_blocks ts)
          (λ b has. blocks_at k ts (drop (k + 1) ts) t b (drop_some ts k t c.track_at-track.ensures) has)
          c.in_default.ensures.reads);
      hit = λ has.
          let before = inv.hit has in
          let on = c.in_default.ensures.hit (seen_part c.rows.reader.cache c.args.from (c.args.from + len) c.args.from
          (c.args.from + length (take (at + len - at) (drop at c.rows.samples))) t.layout (omega arith)
          (omega (arith, size)) (heard_at _ _ c.args.from (c.args.from + len) k ts (drop (k + 1) ts) t
          (drop_some ts k t c.track_at-track.ensures) before.1 has loud)) in
          (on.1 ∙ before.0, same_turn _ _ _ before.1 on.2);
      stored = λ told.
          let still = told_on inv.reads told in
          let P : Files → Type 0 =
          λ f. IsStretch c.args.from (length (take (at + len - at) (drop at c.rows.samples)))
          (meant_track (stored_of f) t) c.read_track.new.out in
          let one = subst P inv.reads.kept.same_reads (c.in_default.ensures.stored still) in
          let Q : ℕ → Type 0 = λ n. IsStretch c.args.from n (meant_track (stored_of files) t) c.read_track.new.out in
          let from : drop c.rows.at c.rows.samples ≡ drop len (drop at c.rows.samples) =
          (let start : c.rows.at ≡ at + len = omega (arith, place) in
          ap (λ n. drop n c.rows.samples) start ∙ sym (drop-drop len at c.rows.samples)) in
          let rest : Project = unmuted (meant (stored_of files) (drop c.rows.i ts)) in
          let R : List ℤ → Type 0 = λ cs. AreStretches c.args.from len rest cs in
          let all = stretch_put c.args.from len at (at + len - at) c.rows.samples c.read_track.new.out
          (meant_track (stored_of files) t) rest
          (omega (arith, fits)) (omega (arith, c.read_track.auto.out, size)) (omega arith) (subst Q size one)
          (subst R from (inv.stored told)) in
          let S : Project → Type 0 = λ p. AreStretches c.args.from len p
          (drop at (put_mid at (at + len - at) c.rows.samples c.read_track.new.out)) in
          subst S (sym (ap (λ us. unmuted (meant (stored_of files) us)) e
          ∙ unmuted_loud (stored_of files) t (meant (stored_of files) (drop c.rows.i ts)) loud)) all;
    }

pub rows-preserved-then-track : goal.rows-preserved-then-track
rows-preserved-then-track g c =
    let ts : List Track = c.args.point.now in
    let k = c.rows.i - 1 in
    let t : Track = c.track_at-track.result.now in
    let inv = c.rows.invariant in
    let silent = c.if-track.true in
    let files : Files = g.S.Store.reads c.args.reader.now.store in
    let next : k + 1 ≡ c.rows.i = omega (arith, c.rows-test.true) in
    let e : drop k ts ≡ t ∷ drop c.rows.i ts =
    drop_some ts k t c.track_at-track.ensures ∙ ap (λ n. t ∷ drop n ts) next in
    let S : Project → Type 0 = λ p. AreStretches c.args.from c.args.len p (drop c.rows.at c.rows.samples) in
    record {
      within = omega (arith, inv.within);
      place = inv.place ∙ ap (λ (n : ℕ). length (heard_tracks (take n ts)) * c.args.len) (sym next)
          ∙ ap (λ (n : ℕ). n * c.args.len) (heard_count_same ts k t c.track_at-track.ensures silent);
      fits = inv.fits;
      rests = inv.rests;
      reads = inv.reads;
      hit = inv.hit;
      stored = λ told. subst S (sym (ap (λ us. unmuted (meant (stored_of files) us)) e
          ∙ unmuted_silent (stored_of files) t (meant (stored_of files) (drop c.rows.i ts)) silent)) (inv.stored told);
    }

pub returns-clause-stored : goal.returns-clause-stored
returns-clause-stored g c = λ told.
    let none : c.rows.i ≡ 0 = omega arith in
    let first : length (heard_tracks (take c.rows.i c.args.point.now)) ≡ 0 =
    ap (λ (n : ℕ). length (heard_tracks (take n c.args.point.now))) none in
    let start : c.rows.at ≡ 0 =
    omega (arith, c.rows.invariant.place, ap (λ (n : ℕ). n * c.args.len) first) in
    let P : ℕ → Type 0 = λ n. AreStretches c.args.from c.args.len
    (unmuted (meant (stored_of (g.S.Store.reads c.args.reader.now.store)) (drop n c.args.point.now)))
    (drop c.rows.at c.rows.samples) in
    let Q : ℕ → Type 0 = λ n. AreStretches c.args.from c.args.len
    (unmuted (meant (stored_of (g.S.Store.reads c.args.reader.now.store)) c.args.point.now)) (drop n c.rows.samples) in
    subst Q start (subst P none (c.rows.invariant.stored told))

pub returns-in-Err-clause-reads : goal.returns-in-Err-clause-reads
returns-in-Err-clause-reads g c =
    let ts : List Track = c.args.point.now in
    let k : ℕ = c.rows.i - 1 in
    let t : Track = c.track_at-track.result.now in
    reads_then {x = tt} c.rows.invariant.reads (reads_more (layout_blocks t.layout) (point_blocks ts)
    (λ b has. blocks_at k ts (drop (k + 1) ts) t b (drop_some ts k t c.track_at-track.ensures) has)
    c.in-Err.ensures.reads)

pub returns-in-Err-clause-hit : goal.returns-in-Err-clause-hit
returns-in-Err-clause-hit g c = λ has.
    let ts : List Track = c.args.point.now in
    let k : ℕ = c.rows.i - 1 in
    let len = c.args.len in
    let at : ℕ = c.rows.at - len in
    let t : Track = c.track_at-track.result.now in
    let loud = c.if-track.false in
    let next : k + 1 ≡ c.rows.i = omega (arith, c.rows-test.true) in
    let place = track_place ts c.rows.i k c.rows.at len t c.track_at-track.ensures loud next c.rows.invariant.place in
    let fits : at + len ≤ length c.rows.samples = omega (arith, place, c.rows.invariant.fits) in
    let size : length (take (at + len - at) (drop at c.rows.samples)) ≡ len =
    omega (arith, length-take (at + len - at) (drop at c.rows.samples), length-drop at c.rows.samples, fits) in
    let before = c.rows.invariant.hit has in
    let on = c.in-Err.ensures.hit (seen_part c.rows.reader.cache c.args.from (c.args.from + len) c.args.from
    (c.args.from + length (take (at + len - at) (drop at c.rows.samples))) t.layout (omega arith)
    (omega (arith, size)) (heard_at _ _ c.args.from (c.args.from + len) k ts (drop (k + 1) ts) t
    (drop_some ts k t c.track_at-track.ensures) before.1 has loud)) in
    (on.0, on.1 ∙ before.0, same_turn _ _ _ before.1 on.2)
