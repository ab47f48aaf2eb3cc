-- The goals of `lay_clip` that the search leaves open.
use Rattle.std.proofs.Common.{◌≡◌, ℕ, Bool, ◌+◌, ◌++◌, get_or, drop, List, ◌∷◌, sym, ap, ap₂, ◌∙◌, arith}
use Rattle.std.proofs.lemmas.List.{drop_more}
use Rattle.pcm_base.specs.{declared.piece.Piece.Piece, Pieces.whole, Pieces.all_samples}
use Rattle.block_sequence.specs.{Laid.no_piece, Laid.parts, Laid.all_laid_samples, declared.types.Laid.TheVariants.Keep}
use Rattle.block_sequence.proofs.Rest.{total_next, total_rest, valid_at, fits_at}
use Rattle.block_sequence.proofs.Out.{AllMade-push}
use Rattle.block_sequence.proofs.Clip.{laid_from, goes_on, stops, kept_parts, kept_samples, kept_is_made, full_is_whole}
use Rattle.block_sequence.proofs.Origins.{from_at, AllLaidFrom-push, block_from}
use Rattle.block_sequence.proofs.fusing.lay_clip.Goals.{then-ends_run+in_ok-lay_between+in_ok-push, else-ends_run}
use Rattle.block_sequence.specs.Fuse as layout
use Rattle.block_sequence.specs.Laying as laying
use Rattle.block_sequence.proofs.fusing.lay_clip.Goals as goal

pub block_of-block-requires : goal.block_of-block-requires
block_of-block-requires c = full_is_whole c.args.m _ _ _ (sym c.ends_run.ensures ∙ c.if-ends_run.true)

pub overflow_add-run : goal.overflow_add-run
overflow_add-run c =
    let t = total_next c.args.pieces.now c.loop-i.i no_piece c.loop-i-test.true in
    let r = total_rest c.args.pieces.now c.loop-i.start in
    omega arith

pub loop-i-preserved : goal.loop-i-preserved
loop-i-preserved c =
    let ps = c.args.pieces.now in
    let i = c.loop-i.i in
    let h = c.loop-i-test.true in
    let p = get_or ps i no_piece in
    let t = total_next ps i no_piece h in
    let d = drop_more ps i no_piece h in
    elim c.if-ends_run.branch [
      | then-ends_run+in_ok-lay_between+in_ok-push w ↦
          let b = w.block_of-block.result in
          let whole_piece : p ≡ whole b = w.block_of-block.ensures in
          let all = c.loop-i.invariant.sizes in
          let tests = sym c.ends_run.ensures ∙ w.if-ends_run.true in
          let v = valid_at ps i no_piece h c.requires.valid in
          let f = fits_at c.args.m ps i no_piece h c.requires.fit in
          rw (w.out-is, w.start-is, w.run-is, w.first-is, w.in_ok-push.ensures.items) (record {
            new_blocks = AllMade-push c.args.m w.lay_between.new.out.items (Keep b) w.in_ok-lay_between.ensures.made
                (kept_is_made c.args.m p b whole_piece v f);
            origin = λ blocks count g. AllLaidFrom-push blocks count w.lay_between.new.out.items (Keep b)
                (w.in_ok-lay_between.ensures.from blocks count g (c.loop-i.invariant.origin blocks count g))
                (block_from blocks count p b whole_piece (from_at blocks count ps i no_piece h g));
            before = omega arith;
            open_run = omega arith;
            sizes = kept_parts (parts c.loop-i.out.items) w.lay_between.new.out.items b
                (laying.run_parts c.args.m c.loop-i.run) (laid_from c.loop-i.first c.args.m 0 (drop (i + 1) ps)) _
                w.in_ok-lay_between.ensures.parts
                (ap (λ (qs : List layout.Part). parts c.loop-i.out.items ++ qs) (sym (
                ap (laid_from c.loop-i.first c.args.m c.loop-i.run) d
                ∙ stops c.loop-i.first c.args.m c.loop-i.run p (drop (i + 1) ps) tests
                ∙ ap (λ (q : Piece). laying.run_parts c.args.m c.loop-i.run ++ laying.kept_of q
                ++ laid_from c.loop-i.first c.args.m 0 (drop (i + 1) ps)) whole_piece))
                ∙ all);
            samples = λ src. kept_samples src w.lay_between.new.out.items b (drop (i + 1) ps) _ (
                ap (λ (q : Piece). all_laid_samples src w.lay_between.new.out.items
                ++ all_samples src (q ∷ drop (i + 1) ps)) (sym whole_piece)
                ∙ ap (λ (qs : List Piece). all_laid_samples src w.lay_between.new.out.items ++ all_samples src qs)
                (sym d)
                ∙ w.in_ok-lay_between.ensures.samples src
                ∙ c.loop-i.invariant.samples src);
          })
      | else-ends_run w ↦
          rw (w.out-is, w.start-is, w.run-is, w.first-is) (record {
            new_blocks = c.loop-i.invariant.new_blocks;
            origin = c.loop-i.invariant.origin;
            before = omega arith;
            open_run = omega (arith, t, w.piece_len-run.ensures);
            sizes =
                ap (λ (qs : List layout.Part). parts c.loop-i.out.items ++ qs) (sym (
                ap (laid_from c.loop-i.first c.args.m c.loop-i.run) d
                ∙ goes_on c.loop-i.first c.args.m c.loop-i.run p (drop (i + 1) ps)
                (sym c.ends_run.ensures ∙ w.if-ends_run.false)
                ∙ ap₂ (λ (b : Bool) (n : ℕ). laid_from b c.args.m n (drop (i + 1) ps))
                (sym w.is_still_first-first.ensures)
                (ap (λ (n : ℕ). c.loop-i.run + n) (sym w.piece_len-run.ensures))))
                ∙ c.loop-i.invariant.sizes;
            samples = c.loop-i.invariant.samples;
          })
    ]

pub returns-clause-from : goal.returns-clause-from
returns-clause-from c blocks count f =
    c.in_ok-lay_between-2.ensures.from blocks count f (c.loop-i.invariant.origin blocks count f)
