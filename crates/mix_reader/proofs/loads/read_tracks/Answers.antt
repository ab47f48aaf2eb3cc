-- One track more is read, from the last to the first.
use Rattle.mix_reader.proofs.Common.{◌≡◌, ℕ, ◌+◌, ◌-◌, ◌*◌, ◌≤◌, List, ◌∷◌, length, drop, sym, ap, subst, ◌∙◌, arith}
use Rattle.mix_reader.proofs.Common.{refl, mul-le-mul_right, drop_all, if◌then◌else◌, Files, unmuted, layout_blocks}
use Rattle.mix_reader.proofs.Common.{Track, meant, meant_track, point_blocks, drop_some, same_none, same_turn}
use Rattle.mix_reader.proofs.Common.{reads_err, reads_more, reads_none, reads_ok, reads_then, told_on, stored_of}
use Rattle.mix_reader.proofs.Common.{AreStretches, heard_count}
use Rattle.mix_reader.proofs.Common.{ℤ, Bool, take, get_or, IsStretch}
use Rattle.disk_model.specs.declared.parts.Part.{Part}
use Rattle.disk_model.proofs.Frames.{tells_back}
use Rattle.mix_reader.proofs.PlanLaws.{front_same, put_row, slot_same}
use Rattle.mix_reader.proofs.{HeardLaws.count_drop, HeardLaws.named_at, PageLaws.heard_at, TrackLaws.blocks_at}
use Rattle.mix_reader.proofs.loads.read_tracks.Goals as goal

pub rows-init : goal.rows-init
rows-init g c =
    let ts : List Track = c.args.point.now in
    let len : ℕ = c.args.len in
    let all = drop_all c.len-i.result ts (omega (arith, c.len-i.ensures.value)) in
    let none : heard_count (drop c.len-i.result ts) * len ≡ 0 * len = ap (λ us. heard_count us * len) all in
    let P : List Track → Type 0 =
    λ us. AreStretches c.args.from len (unmuted (meant (stored_of (g.S.Store.reads c.args.reader.now.store)) us))
    (drop (length c.args.samples.now) c.args.samples.now) in
    record {
      within = omega (arith, c.len-i.ensures.value);
      place = omega (arith, none, c.requires.room);
      reads = reads_none tt (g.met.S.Store.may_fewer _);
      hit = λ has. (refl, same_none _);
      before = refl;
      stored = λ told. subst P (sym all) tt;
    }

pub read_before-requires-clause-named : goal.read_before-requires-clause-named
read_before-requires-clause-named g c =
    let ts : List Track = c.args.point.now in
    let k : ℕ = c.rows.i - 1 in
    named_at k ts (drop (k + 1) ts) c.track_at-track.result.now
    (drop_some ts k c.track_at-track.result.now c.track_at-track.ensures) c.requires.named

pub read_before-requires-clause-room : goal.read_before-requires-clause-room
read_before-requires-clause-room g c =
    let ts : List Track = c.args.point.now in
    let k : ℕ = c.rows.i - 1 in
    let len : ℕ = c.args.len in
    let t : Track = c.track_at-track.result.now in
    let one : ℕ = if t.mute then 0 else 1 in
    let next : k + 1 ≡ c.rows.i = omega (arith, c.rows-test.true) in
    let e : drop k ts ≡ t ∷ drop c.rows.i ts =
    drop_some ts k t c.track_at-track.ensures ∙ ap (λ n. t ∷ drop n ts) next in
    let h : ℕ = heard_count (drop c.rows.i ts) in
    let fewer : one + h ≤ heard_count ts = subst (λ n. n ≤ heard_count ts) (ap heard_count e) (count_drop k ts) in
    let rows : (one + h) * len ≤ heard_count ts * len = mul-le-mul_right len fewer in
    omega (arith, rows, c.rows.invariant.place)

pub read_before-requires-clause-there : goal.read_before-requires-clause-there
read_before-requires-clause-there g c = λ told loud yes.
    let ts : List Track = c.args.point.now in
    let k : ℕ = c.rows.i - 1 in
    let len : ℕ = c.args.len in
    let end : ℕ = c.rows.end in
    let t : Track = c.track_at-track.result.now in
    let d : Part = record { file = 0; at = 0; to = 0; len = 0 } in
    let found = c.is_put-is_there.ensures d yes in
    let files : Files = g.S.Store.reads c.args.reader.now.store in
    let xs : List ℤ = c.args.samples.now in
    let was = tells_back c.rows.invariant.reads.kept told in
    let room = read_before-requires-clause-room g c in
    let heard : (if t.mute then 0 else 1) * len ≡ 1 * len = ap (λ (b : Bool). (if b then 0 else 1) * len) loud in
    let place : end - len + len ≡ end = omega (arith, heard, room) in
    let at : (get_or c.args.parts.now (2 * k) d).to ≡ end - len = omega (arith, found.2, c.saturating_sub.ensures) in
    let row = put_row (stored_of files) c.args.from len k ts (drop (k + 1) ts) t c.args.parts.now d xs
    (drop_some ts k t c.track_at-track.ensures) (c.requires.put was) found.0 found.1 in
    let P : ℕ → Type 0 = λ n. IsStretch c.args.from len (meant_track (stored_of files) t) (take len (drop n xs)) in
    let Q : List ℤ → Type 0 = λ ys. IsStretch c.args.from len (meant_track (stored_of files) t) ys in
    let R : Files → Type 0 = λ f.
    IsStretch c.args.from len (meant_track (stored_of f) t) (take len (drop (end - len) c.rows.samples)) in
    subst R (sym c.rows.invariant.reads.kept.same_reads)
    (subst Q (sym (slot_same (end - len) len end c.rows.samples xs place c.rows.invariant.before)) (subst P at row))

pub rows-preserved : goal.rows-preserved
rows-preserved g c =
    let ts : List Track = c.args.point.now in
    let k : ℕ = c.rows.i - 1 in
    let len : ℕ = c.args.len in
    let t : Track = c.track_at-track.result.now in
    let one : ℕ = if t.mute then 0 else 1 in
    let inv = c.rows.invariant in
    let ens = c.in-Ok.ensures in
    let files : Files = g.S.Store.reads c.args.reader.now.store in
    let next : k + 1 ≡ c.rows.i = omega (arith, c.rows-test.true) in
    let e : drop k ts ≡ t ∷ drop c.rows.i ts =
    drop_some ts k t c.track_at-track.ensures ∙ ap (λ n. t ∷ drop n ts) next in
    let h : ℕ = heard_count (drop c.rows.i ts) in
    let more : heard_count (drop k ts) * len ≡ (one + h) * len = ap (λ us. heard_count us * len) e in
    record {
      within = omega (arith, inv.within);
      place = omega (arith, more, ens.place, inv.place);
      reads = reads_then {x = tt} inv.reads (reads_ok {x = c.in-Ok.at} {y = tt}
          (reads_more (layout_blocks t.layout) (point_blocks ts)
          (λ b has. blocks_at k ts (drop (k + 1) ts) t b (drop_some ts k t c.track_at-track.ensures) has) ens.reads));
      hit = λ has.
          let before = inv.hit has in
          let on = ens.hit (heard_at _ _ c.args.from (c.args.from + len) k ts (drop (k + 1) ts) t
          (drop_some ts k t c.track_at-track.ensures) before.1 has) in
          (on.1 ∙ before.0, same_turn _ _ _ before.1 on.2);
      before = front_same c.in-Ok.at c.rows.end c.read_before.new.samples c.rows.samples c.args.samples.now
          (omega (arith, ens.place)) ens.before inv.before;
      stored = λ told.
          let still = told_on inv.reads told in
          let P : Files → Type 0 = λ f. AreStretches c.args.from len
          (unmuted (meant_track (stored_of f) t ∷ meant (stored_of files) (drop c.rows.i ts)))
          (drop c.in-Ok.at c.read_before.new.samples) in
          let S : List Track → Type 0 = λ us. AreStretches c.args.from len (unmuted (meant (stored_of files) us))
          (drop c.in-Ok.at c.read_before.new.samples) in
          subst S (sym e) (subst P inv.reads.kept.same_reads
          (ens.stored still (meant (stored_of files) (drop c.rows.i ts)) (inv.stored told)));
    }

pub returns-in-Err-clause-reads : goal.returns-in-Err-clause-reads
returns-in-Err-clause-reads g c =
    let ts : List Track = c.args.point.now in
    let k : ℕ = c.rows.i - 1 in
    let t : Track = c.track_at-track.result.now in
    reads_then {x = tt} c.rows.invariant.reads (reads_more (layout_blocks t.layout) (point_blocks ts)
    (λ b has. blocks_at k ts (drop (k + 1) ts) t b (drop_some ts k t c.track_at-track.ensures) has)
    (reads_err c.in-Err.ensures.reads))

pub returns-in-Err-clause-hit : goal.returns-in-Err-clause-hit
returns-in-Err-clause-hit g c = λ has.
    let ts : List Track = c.args.point.now in
    let k : ℕ = c.rows.i - 1 in
    let t : Track = c.track_at-track.result.now in
    let before = c.rows.invariant.hit has in
    let on = c.in-Err.ensures.hit (heard_at _ _ c.args.from (c.args.from + c.args.len) k ts (drop (k + 1) ts) t
    (drop_some ts k t c.track_at-track.ensures) before.1 has) in
    (on.0, on.1 ∙ before.0, same_turn _ _ _ before.1 on.2)
