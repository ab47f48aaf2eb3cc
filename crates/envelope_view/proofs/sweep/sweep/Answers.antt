-- Some cells more, and what is left where all of them are swept or none is left.
use Rattle.envelope_view.proofs.Common.{◌≡◌, ◌∷◌, ◌+◌, ◌-◌, ◌≤◌, ℕ, ℤ, List, [], ◌++◌, take, drop, refl, sym, ap, subst}
use Rattle.envelope_view.proofs.Common.{◌∙◌, arith, Contains, exit_err, Files, BlockRef, Cell, Sources, sources_of}
use Rattle.envelope_view.proofs.Common.{reads_err, reads_more, reads_none, reads_ok, reads_then, told_on, samples_among}
use Rattle.envelope_view.proofs.Common.{Summary, summary_of, Stretch, strip_blocks, strip_cells, stretch_item}
use Rattle.envelope_view.proofs.Common.{IsInBlock, ahead_blocks, ahead_cells, stretch_blocks, stretch_cells}
use Rattle.envelope_view.proofs.Common.{stretch_len, ahead_items, IsKnown, AreWhole, same_none}
use Rattle.std.proofs.lemmas.List.Elements.{Contains-append_left}
use Rattle.envelope_view.proofs.AheadLaws.{among_few, front_fits, step_heard, step_passed, none_heard, none_passed}
use Rattle.envelope_view.proofs.Running.{Running, running_start, running_more, running_end}
use Rattle.envelope_view.proofs.{BlockReads.hits_none, BlockReads.hits_then, KeptLaws.items_on, KeptLaws.rest_pages}
use Rattle.envelope_view.proofs.{KeptLaws.stretch_pages}
use Rattle.envelope_view.proofs.sweep.sweep.Goals as goal

pub stretches-init : goal.stretches-init
stretches-init g c = record {
  within = omega arith;
  stretch = c.requires.stretch;
  blocks = λ b there. there;
  passed = λ src. refl;
  reads = reads_none tt (g.met.S.Store.may_fewer _);
  hit = hits_none;
  kept = λ a n has. has;
  known = c.requires.known;
  read = λ told whole. running_start _ _;
}

pub len_of-requires : goal.len_of-requires
len_of-requires g c = subst IsInBlock (sym c.in-Some.ensures.found.0) c.next.ensures.stretch

pub summarize_stretch-requires-clause-stretch : goal.summarize_stretch-requires-clause-stretch
summarize_stretch-requires-clause-stretch g c = subst IsInBlock (sym c.in-Some.ensures.found.0) c.next.ensures.stretch

pub summarize_stretch-requires-clause-named : goal.summarize_stretch-requires-clause-named
summarize_stretch-requires-clause-named g c = λ b there.
    let rest = strip_blocks c.next.new.self.rest in
    let ahead = subst (λ (s : Stretch). Contains (stretch_blocks s ++ rest) b) c.in-Some.ensures.found.0
    (Contains-append_left (stretch_blocks c.in-Some.stretch) rest b there) in
    c.requires.named b (c.stretches.invariant.blocks b (c.next.ensures.blocks b ahead))

pub behind-ahead-requires-clause-stretch : goal.behind-ahead-requires-clause-stretch
behind-ahead-requires-clause-stretch g c = subst IsInBlock (sym c.in-Some.ensures.found.0) c.next.ensures.stretch

pub returns-in_err-part-clause-blocks : goal.returns-in_err-part-clause-blocks
returns-in_err-part-clause-blocks g c = λ b there. c.stretches.invariant.blocks b (c.next.ensures.blocks b there)

pub stretches-preserved : goal.stretches-preserved
stretches-preserved g c =
    let inv = c.stretches.invariant in
    let files : Files = g.S.Store.reads c.args.reader.now.store in
    let all_src : Sources = sources_of files in
    let s : Stretch = c.in-Some.stretch in
    let rest = c.next.new.self.rest in
    let left : ℕ = c.stretches.left in
    let size : ℕ = c.min-size.result in
    let same = c.in-Some.ensures.found.0 in
    let within : size ≤ left = omega (arith, c.min-size.ensures) in
    let part : size ≤ stretch_len s = omega (arith, c.min-size.ensures, c.len_of.ensures) in
    let cells : (src : Sources) → strip_cells src (stretch_item s ∷ rest) ≡ ahead_cells src c.stretches.ahead =
    λ src. ap (λ (x : Stretch). strip_cells src (stretch_item x ∷ rest)) same ∙ c.next.ensures.cells src in
    let there : (b : BlockRef) → Contains (stretch_blocks s ++ strip_blocks rest) b
    → Contains (ahead_blocks c.args.ahead.now) b =
    λ b is. inv.blocks b (c.next.ensures.blocks b
    (subst (λ (x : Stretch). Contains (stretch_blocks x ++ strip_blocks rest) b) same is)) in
    record {
      within = omega (arith, inv.within);
      stretch = c.behind-ahead.ensures.stretch;
      blocks = λ b is. there b
          (subst (λ (bs : List BlockRef). Contains (bs ++ strip_blocks rest) b) c.behind-ahead.ensures.blocks is);
      passed = λ src. step_passed src s c.behind-ahead.result rest (ahead_cells src c.stretches.ahead) left size within
          part c.behind-ahead.ensures.item (cells src) ∙ inv.passed src;
      reads = reads_then {x = tt} inv.reads
          (reads_ok {y = tt} (reads_more (stretch_blocks s) (ahead_blocks c.args.ahead.now)
          (λ b is. there b (Contains-append_left (stretch_blocks s) (strip_blocks rest) b is))
          c.in_ok-part.ensures.reads));
      hit = hits_then (λ has. has) (λ has kept. stretch_pages c.args.reader.now.cache _ left size c.args.reach s
          c.next.new.self.stretch rest kept within same (c.next.ensures.kept c.args.reader.now.cache
          (left + c.args.reach) (inv.kept c.args.reader.now.cache c.args.reach has))) inv.hit c.in_ok-part.ensures.hit;
      kept = λ a n has. rest_pages a left size n s c.behind-ahead.result c.next.new.self.stretch rest within part same
          c.behind-ahead.ensures.item (c.next.ensures.kept a (left + n) (inv.kept a n has));
      known = λ told.
          subst (λ (f : Files). IsKnown f c.summarize_stretch.new.known) inv.reads.kept.same_reads
          (c.summarize_stretch.ensures.known (told_on inv.reads told));
      read = λ told whole.
          let still = told_on inv.reads told in
          let whole_s : AreWhole files (stretch_blocks s) =
          λ b is. whole b (there b (Contains-append_left (stretch_blocks s) (strip_blocks rest) b is)) in
          let here = subst (λ (f : Files). AreWhole f (stretch_blocks s)) (sym inv.reads.kept.same_reads) whole_s in
          let ok = subst IsInBlock (sym same) c.next.ensures.stretch in
          let got : c.in_ok-part.part ≡ summary_of (samples_among (take size (stretch_cells all_src s))) =
          c.in_ok-part.ensures.read still here ∙ ap (λ (f : Files).
          summary_of (samples_among (take size (stretch_cells (sources_of f) s)))) inv.reads.kept.same_reads in
          let target : List ℤ = samples_among (take c.args.count (ahead_cells all_src c.args.ahead.now)) in
          let xs : List ℤ = samples_among (take size (stretch_cells all_src s)) in
          let more : List ℤ =
          samples_among (take (left - size) (strip_cells all_src (stretch_item c.behind-ahead.result ∷ rest))) in
          let run : Running c.stretches.all c.args.count left (xs ++ more) target =
          subst (λ (ys : List ℤ). Running c.stretches.all c.args.count left ys target)
          (step_heard all_src s c.behind-ahead.result rest
          (ahead_cells all_src c.stretches.ahead) left size within part c.behind-ahead.ensures.item (cells all_src))
          (inv.read told whole) in
          subst (λ (z : Summary). Running z c.args.count (left - size) more target) (sym c.join-all.ensures.exact)
          (running_more c.stretches.all c.in_ok-part.part c.args.count left size xs more target c.requires.few within
          (front_fits files s size ok part whole_s) (among_few size (stretch_cells all_src s)) got run);
    }

pub returns-in_default-clause-blocks : goal.returns-in_default-clause-blocks
returns-in_default-clause-blocks g c = λ b there. c.stretches.invariant.blocks b (c.next.ensures.blocks b there)

pub returns-in_default-clause-passed : goal.returns-in_default-clause-passed
returns-in_default-clause-passed g c = λ src.
    let cells : List Cell = ahead_cells src c.stretches.ahead in
    let none : cells ≡ [] = sym (c.next.ensures.cells src) ∙ c.in_default.ensures.found src in
    c.next.ensures.cells src ∙ sym (none_passed cells c.stretches.left none) ∙ c.stretches.invariant.passed src

pub returns-in_default-clause-read : goal.returns-in_default-clause-read
returns-in_default-clause-read g c = λ told whole.
    let src : Sources = sources_of (g.S.Store.reads c.args.reader.now.store) in
    let cells : List Cell = ahead_cells src c.stretches.ahead in
    let none : cells ≡ [] = sym (c.next.ensures.cells src) ∙ c.in_default.ensures.found src in
    running_end c.stretches.all c.args.count c.stretches.left (samples_among (take c.stretches.left cells)) _
    (none_heard cells c.stretches.left none) (c.stretches.invariant.read told whole)

pub returns-clause-passed : goal.returns-clause-passed
returns-clause-passed g c = λ src.
    let none : 0 ≡ c.stretches.left = omega (arith, c.stretches-test.false) in
    ap (λ (k : ℕ). drop k (ahead_cells src c.stretches.ahead)) none ∙ c.stretches.invariant.passed src

pub returns-clause-read : goal.returns-clause-read
returns-clause-read g c = λ told whole.
    let src : Sources = sources_of (g.S.Store.reads c.args.reader.now.store) in
    let none : c.stretches.left ≡ 0 = omega (arith, c.stretches-test.false) in
    let cells : List Cell = ahead_cells src c.stretches.ahead in
    running_end c.stretches.all c.args.count c.stretches.left (samples_among (take c.stretches.left cells)) _
    (ap (λ (k : ℕ). samples_among (take k cells)) none) (c.stretches.invariant.read told whole)

pub returns-in_err-part-clause-reads : goal.returns-in_err-part-clause-reads
returns-in_err-part-clause-reads g c =
    let inv = c.stretches.invariant in
    let s : Stretch = c.in-Some.stretch in
    let rest = strip_blocks c.next.new.self.rest in
    rw (exit_err c.from_residual.result c.from_residual.ensures.1) (reads_then {x = tt} inv.reads
    (reads_err (reads_more (stretch_blocks s) (ahead_blocks c.args.ahead.now)
    (λ b is. inv.blocks b (c.next.ensures.blocks b
    (subst (λ (x : Stretch). Contains (stretch_blocks x ++ rest) b) c.in-Some.ensures.found.0
    (Contains-append_left (stretch_blocks s) rest b is))))
    c.in_err-part.ensures.reads)))

pub returns-in_default-clause-reads : goal.returns-in_default-clause-reads
returns-in_default-clause-reads g c = reads_ok {x = tt} c.stretches.invariant.reads

pub returns-clause-reads : goal.returns-clause-reads
returns-clause-reads g c = reads_ok {x = tt} c.stretches.invariant.reads

pub returns-in_err-part-clause-hit : goal.returns-in_err-part-clause-hit
returns-in_err-part-clause-hit g c =
    let inv = c.stretches.invariant in
    let old = c.args.reader.now.cache in
    rw (exit_err c.from_residual.result c.from_residual.ensures.1) (hits_then (λ has. has) (λ has kept.
    stretch_pages old _ c.stretches.left c.min-size.result c.args.reach c.in-Some.stretch c.next.new.self.stretch
    c.next.new.self.rest kept (omega (arith, c.min-size.ensures)) c.in-Some.ensures.found.0
    (c.next.ensures.kept old (c.stretches.left + c.args.reach) (inv.kept old c.args.reach has)))
    inv.hit c.in_err-part.ensures.hit)

pub returns-in_default-clause-hit : goal.returns-in_default-clause-hit
returns-in_default-clause-hit g c = c.stretches.invariant.hit

pub returns-clause-hit : goal.returns-clause-hit
returns-clause-hit g c = c.stretches.invariant.hit

pub returns-in_default-clause-kept : goal.returns-in_default-clause-kept
returns-in_default-clause-kept g c = λ a n has. items_on a a 0 (c.stretches.left + n) 0 n (ahead_items
    c.next.new.self) (same_none a) (omega arith)
    (omega arith) (c.next.ensures.kept a (c.stretches.left + n) (c.stretches.invariant.kept a n has))

pub returns-clause-kept : goal.returns-clause-kept
returns-clause-kept g c = λ a n has. items_on a a 0 (c.stretches.left + n) 0 n (ahead_items c.stretches.ahead)
    (same_none a) (omega arith)
    (omega arith) (c.stretches.invariant.kept a n has)
