-- One stretch more is mixed.
use Rattle.mix_reader.proofs.Common.{◌≡◌, ℕ, ◌+◌, ◌-◌, ◌≤◌, List, length, take, drop, map, refl, sym, ap, subst, ◌∙◌}
use Rattle.mix_reader.proofs.Common.{Ok, arith, length-drop, length-take, Files, Frame, counted_from, frame_at, Track}
use Rattle.mix_reader.proofs.Common.{meant, point_blocks, Reads, Entries, SameCache, same_none, same_turn, reads_none}
use Rattle.mix_reader.proofs.Common.{reads_then, told_on, stored_of, HasHeard}
use Rattle.std.proofs.Common.{Err}
use Rattle.mix_reader.proofs.{CountLaws.made_more, PageLaws.heard_on, PageLaws.heard_part}
use Rattle.mix_reader.proofs.frames.mix_stretches.Goals as goal

-- the pages that the next stretch wants are there
heard_next : (a b : Entries) (from len at m : ℕ) (ts us : List Track) → us ≡ ts → from ≤ at → at + m ≤ from + len
    → SameCache a b → HasHeard a from (from + len) ts → HasHeard b at (at + m) us
heard_next a b from len at m ts us point low high same has =
    subst (λ (vs : List Track). HasHeard b at (at + m) vs) (sym point)
    (heard_part b from (from + len) at (at + m) ts low high (heard_on a b from (from + len) ts same has))

pub stretches-init : goal.stretches-init
stretches-init g c = record {
  within = omega arith;
  reader = c.requires.reader;
  point = refl;
  place = omega arith;
  reads = reads_none tt (g.met.S.Store.may_fewer _);
  hit = λ has. (refl, same_none _);
  stored = λ told. refl;
}

pub stretches-preserved : goal.stretches-preserved
stretches-preserved g c =
    let r = c.args.mix.now in
    let inv = c.stretches.invariant in
    let done = c.stretches.done in
    let n = c.min.result in
    let old : List Frame = c.stretches.out in
    let files : Files = g.S.Store.reads c.args.reader.now.store in
    let fits : done + n ≤ length old = omega (arith, inv.within, c.stretches.auto.out, c.min.ensures) in
    let m : ℕ = length (take (done + n - done) (drop done old)) in
    let size : m ≡ n = omega (arith, length-take (done + n - done) (drop done old), length-drop done old, fits) in
    record {
      within = omega (arith, fits, c.stretches.auto.out);
      reader = c.mix_stretch.ensures.reader;
      point = c.mix_stretch.ensures.point ∙ inv.point;
      place = omega (arith, c.in_default.ensures.place, inv.place, size);
      reads = reads_then {x = tt} inv.reads
          (subst (λ (ts : List Track). Reads (point_blocks ts) c.stretches.reader c.mix_stretch.new.reader
          (Ok (tt {0}))) inv.point c.in_default.ensures.reads);
      hit = λ has.
          let before = inv.hit has in
          let on = c.in_default.ensures.hit (heard_next _ _ r.at (length c.args.out.now) c.stretches.mix.at m r.point.now
          c.stretches.mix.point.now inv.point (omega (arith, inv.place))
          (omega (arith, inv.place, size, fits, c.stretches.auto.out)) before.1 has) in
          (on.1 ∙ before.0, same_turn _ _ _ before.1 on.2);
      stored = λ told.
          let still = told_on inv.reads told in
          let P : Files → Type 0 = λ f. c.mix_stretch.new.out ≡ map
          (frame_at (meant (stored_of f) c.stretches.mix.point.now)) (counted_from c.stretches.mix.at m) in
          let got = subst P inv.reads.kept.same_reads (c.in_default.ensures.stored still) in
          let f : ℕ → Frame = frame_at (meant (stored_of files) r.point.now) in
          let here : c.mix_stretch.new.out ≡ map f (counted_from (r.at + done) n) =
          got
          ∙ ap (λ (ts : List Track). map (frame_at (meant (stored_of files) ts)) (counted_from c.stretches.mix.at m))
          inv.point
          ∙ ap (λ (a : ℕ). map f (counted_from a m)) inv.place
          ∙ ap (λ (k : ℕ). map f (counted_from (r.at + done) k)) size in
          made_more f r.at done n (done + n - done) (done + n) old c.mix_stretch.new.out (omega (arith, fits))
          (inv.stored told) here (omega (arith, c.mix_stretch.auto.out, size)) refl;
    }

pub returns-in-Err-clause-reads : goal.returns-in-Err-clause-reads
returns-in-Err-clause-reads g c =
    let inv = c.stretches.invariant in
    reads_then {x = tt} inv.reads
    (subst (λ (ts : List Track). Reads {T = Unit {0}} (point_blocks ts) c.stretches.reader c.mix_stretch.new.reader
    (Err c.in-Err.fault)) inv.point c.in-Err.ensures.reads)

pub returns-in-Err-clause-hit : goal.returns-in-Err-clause-hit
returns-in-Err-clause-hit g c = λ has.
    let r = c.args.mix.now in
    let inv = c.stretches.invariant in
    let done = c.stretches.done in
    let n = c.min.result in
    let old : List Frame = c.stretches.out in
    let fits : done + n ≤ length old = omega (arith, inv.within, c.stretches.auto.out, c.min.ensures) in
    let m : ℕ = length (take (done + n - done) (drop done old)) in
    let size : m ≡ n = omega (arith, length-take (done + n - done) (drop done old), length-drop done old, fits) in
    let before = inv.hit has in
    let on = c.in-Err.ensures.hit (heard_next _ _ r.at (length c.args.out.now) c.stretches.mix.at m r.point.now
    c.stretches.mix.point.now inv.point (omega (arith, inv.place))
    (omega (arith, inv.place, size, fits, c.stretches.auto.out)) before.1 has) in
    (on.0, on.1 ∙ before.0, same_turn _ _ _ before.1 on.2)
