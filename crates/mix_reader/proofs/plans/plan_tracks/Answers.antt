-- One track more is planned, from the last to the first.
use Rattle.mix_reader.proofs.Common.{◌≡◌, ℕ, ◌+◌, ◌-◌, ◌*◌, ◌≤◌, List, ◌∷◌, drop, sym, ap, subst, ◌∙◌, arith}
use Rattle.mix_reader.proofs.Common.{refl, mul-le-mul_right, drop_all, if◌then◌else◌, layout_blocks, length-set, Track}
use Rattle.mix_reader.proofs.Common.{point_blocks, drop_some, same_none, same_turn, reads_err, reads_more, reads_none}
use Rattle.mix_reader.proofs.Common.{reads_ok, reads_then, heard_count}
use Rattle.std.proofs.Common.{⊎_elim}
use Rattle.std.proofs.lemmas.{Bool.cases_lt, List.drop-replicate}
use Rattle.std.specs.Prelude.{replicate}
use Rattle.disk_model.specs.declared.parts.Part.{Part}
use Rattle.disk_model.specs.Parts.{AreParts}
use Rattle.disk_model.proofs.Buffers.{parts_sooner}
use Rattle.mix_reader.specs.Plans.{ArePlans}
use Rattle.mix_reader.proofs.{HeardLaws.count_drop, HeardLaws.named_at, PageLaws.heard_at, PlanLaws.parts_none}
use Rattle.mix_reader.proofs.PlanLaws.{two_set}
use Rattle.mix_reader.proofs.TrackLaws.{blocks_at}
use lib.ListN.{set}
use Rattle.mix_reader.proofs.plans.plan_tracks.Goals as goal

pub rows-init : goal.rows-init
rows-init g c =
    let ts : List Track = c.args.point.now in
    let n : ℕ = c.len-i.result in
    let len : ℕ = c.args.len in
    let none : Part = c.no_part-parts.result in
    let all = drop_all n ts (omega (arith, c.len-i.ensures.value)) in
    let size : heard_count (drop n ts) * len ≡ 0 * len = ap (λ us. heard_count us * len) all in
    let P : List Track → Type 0 = λ us. ArePlans c.args.from len us (drop (2 * n) (replicate 128 none)) in
    let Q : List Part → Type 0 = λ ps. AreParts c.args.room c.args.room ps in
    record {
      within = omega (arith, c.len-i.ensures.value);
      size = refl;
      place = omega (arith, size, c.requires.room);
      reads = reads_none tt (g.met.S.Store.may_fewer _);
      hit = λ has. (refl, same_none _, refl);
      among = λ some. absurd (omega (arith, some));
      parts = subst Q (sym (drop-replicate (2 * n) 128 none)) (parts_none (128 - 2 * n) c.args.room none
          (ap (λ (p : Part). p.len) c.no_part-parts.ensures) (ap (λ (p : Part). p.at) c.no_part-parts.ensures)
          (ap (λ (p : Part). p.to) c.no_part-parts.ensures));
      plans = subst P (sym all) tt;
    }

pub plan_track-requires-clause-named : goal.plan_track-requires-clause-named
plan_track-requires-clause-named g c =
    let ts : List Track = c.args.point.now in
    let k : ℕ = c.rows.i - 1 in
    named_at k ts (drop (k + 1) ts) c.track_at-track.result.now
    (drop_some ts k c.track_at-track.result.now c.track_at-track.ensures) c.requires.named

pub plan_track-requires-clause-room : goal.plan_track-requires-clause-room
plan_track-requires-clause-room g c =
    let ts : List Track = c.args.point.now in
    let k : ℕ = c.rows.i - 1 in
    let len : ℕ = c.args.len in
    let t : Track = c.track_at-track.result.now in
    let one : ℕ = if t.mute then 0 else 1 in
    let next : k + 1 ≡ c.rows.i = omega (arith, c.rows-test.true) in
    let e : drop k ts ≡ t ∷ drop c.rows.i ts =
    drop_some ts k t c.track_at-track.ensures ∙ ap (λ n. t ∷ drop n ts) next in
    let h : ℕ = heard_count (drop c.rows.i ts) in
    let fewer : one + h ≤ heard_count ts = subst (λ n. n ≤ heard_count ts) (ap heard_count e) (count_drop k ts) in
    let rows : (one + h) * len ≤ heard_count ts * len = mul-le-mul_right len fewer in
    omega (arith, rows, c.rows.invariant.place)

pub rows-preserved : goal.rows-preserved
rows-preserved g c =
    let ts : List Track = c.args.point.now in
    let k : ℕ = c.rows.i - 1 in
    let len : ℕ = c.args.len in
    let t : Track = c.track_at-track.result.now in
    let one : ℕ = if t.mute then 0 else 1 in
    let inv = c.rows.invariant in
    let ens = c.in-Ok.ensures in
    let p : Part = c.in-Ok.part in
    let q : Part = c.in-Ok.next in
    let next : k + 1 ≡ c.rows.i = omega (arith, c.rows-test.true) in
    let e : drop k ts ≡ t ∷ drop c.rows.i ts =
    drop_some ts k t c.track_at-track.ensures ∙ ap (λ n. t ∷ drop n ts) next in
    let f : drop (2 * k) (set (set c.rows.parts (2 * k + 1) q) (2 * k) p) ≡ p ∷ q ∷ drop (2 * c.rows.i) c.rows.parts =
    two_set c.rows.parts k c.rows.i p q next
    (omega (arith, inv.size, inv.within, c.len-i.ensures.few, c.len-i.ensures.value)) in
    let h : ℕ = heard_count (drop c.rows.i ts) in
    let more : heard_count (drop k ts) * len ≡ (one + h) * len = ap (λ us. heard_count us * len) e in
    let P : List Part → Type 0 = λ ps. AreParts p.to c.args.room ps in
    let Q : List Track → Type 0 = λ us. ArePlans c.args.from len us (p ∷ q ∷ drop (2 * c.rows.i) c.rows.parts) in
    let R : List Part → Type 0 = λ ps. ArePlans c.args.from len (drop k ts) ps in
    record {
      within = omega (arith, inv.within);
      size = length-set (set c.rows.parts (2 * k + 1) q) (2 * k) p ∙ length-set c.rows.parts (2 * k + 1) q ∙ inv.size;
      place = omega (arith, more, ens.place, inv.place);
      reads = reads_then {x = tt} inv.reads (reads_ok {x = (p, q)} {y = tt}
          (reads_more (layout_blocks t.layout) (point_blocks ts)
          (λ b has. blocks_at k ts (drop (k + 1) ts) t b (drop_some ts k t c.track_at-track.ensures) has) ens.reads));
      hit = λ has.
          let before = inv.hit has in
          let seen = heard_at _ _ c.args.from (c.args.from + len) k ts (drop (k + 1) ts) t
          (drop_some ts k t c.track_at-track.ensures) before.1 has in
          let on = ens.hit seen in
          (on.1 ∙ before.0, same_turn _ _ _ before.1 on.2, omega (arith, ens.spared seen, before.2, c.max-most.ensures));
      among = λ some. ⊎_elim (λ old. inv.among old) (λ none.
          let found = ens.among (omega (arith, some, none, c.max-most.ensures)) in
          (found.0, blocks_at k ts (drop (k + 1) ts) t found.0 (drop_some ts k t c.track_at-track.ensures) found.1))
          (cases_lt 0 c.rows.most);
      parts = subst P (sym f) (
        ens.parts.0,
        ens.parts.1,
        (
          ens.parts.2.0,
          ens.parts.2.1,
          parts_sooner (drop (2 * c.rows.i) c.rows.parts) (q.to + q.len) c.rows.end c.args.room ens.parts.2.2 inv.parts,
        ),
      );
      plans = subst R (sym f) (subst Q (sym e) (ens.plan, inv.plans));
    }

pub returns-in-Err-clause-reads : goal.returns-in-Err-clause-reads
returns-in-Err-clause-reads g c =
    let ts : List Track = c.args.point.now in
    let k : ℕ = c.rows.i - 1 in
    let t : Track = c.track_at-track.result.now in
    reads_then {x = tt} c.rows.invariant.reads (reads_more (layout_blocks t.layout) (point_blocks ts)
    (λ b has. blocks_at k ts (drop (k + 1) ts) t b (drop_some ts k t c.track_at-track.ensures) has)
    (reads_err c.in-Err.ensures.reads))

pub returns-in-Err-clause-hit : goal.returns-in-Err-clause-hit
returns-in-Err-clause-hit g c = λ has.
    let ts : List Track = c.args.point.now in
    let k : ℕ = c.rows.i - 1 in
    let t : Track = c.track_at-track.result.now in
    let before = c.rows.invariant.hit has in
    let on = c.in-Err.ensures.hit (heard_at _ _ c.args.from (c.args.from + c.args.len) k ts (drop (k + 1) ts) t
    (drop_some ts k t c.track_at-track.ensures) before.1 has) in
    (on.0, on.1 ∙ before.0, same_turn _ _ _ before.1 on.2)

pub returns-clause-reads : goal.returns-clause-reads
returns-clause-reads g c = reads_ok {x = tt} c.rows.invariant.reads

pub returns-clause-parts : goal.returns-clause-parts
returns-clause-parts g c =
    let none : c.rows.i ≡ 0 = omega (arith, c.rows-test.false) in
    let P : ℕ → Type 0 = λ n. AreParts 0 c.args.room (drop (2 * n) c.rows.parts) in
    subst P none (parts_sooner (drop (2 * c.rows.i) c.rows.parts) 0 c.rows.end c.args.room (omega arith)
    c.rows.invariant.parts)

pub returns-clause-plans : goal.returns-clause-plans
returns-clause-plans g c =
    let none : c.rows.i ≡ 0 = omega (arith, c.rows-test.false) in
    let P : ℕ → Type 0 = λ n. ArePlans c.args.from c.args.len (drop n c.args.point.now) (drop (2 * n) c.rows.parts) in
    subst P none c.rows.invariant.plans
