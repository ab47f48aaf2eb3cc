-- There are at most 64, and room for each.
use Rattle.mix_reader.proofs.Common.{◌≤◌, ◌*◌, length, ap, sym, ◌∙◌, arith, mul-le-mul_right}
use Rattle.mix_reader.proofs.HeardLaws.{count_gains, count_sides, count_most}
use Rattle.mix_reader.proofs.loads.make_ready.Goals as goal

pub overflow_mul-room : goal.overflow_mul-room
overflow_mul-room c =
    let gains = ap length c.in_ok-list_heard.ensures.gains ∙ count_gains c.args.point.now in
    let most : c.len.result ≤ 64 =
    omega (arith, c.len.ensures, gains, count_most c.args.point.now, c.list_heard.ensures.few) in
    let rows : c.len.result * c.args.count ≤ 64 * c.args.count = mul-le-mul_right c.args.count most in
    omega (arith, rows, c.requires)

pub returns-clause-loaded : goal.returns-clause-loaded
returns-clause-loaded c =
    let gains = ap length c.in_ok-list_heard.ensures.gains ∙ count_gains c.args.point.now in
    let sides = ap length c.in_ok-list_heard.ensures.sides ∙ count_sides c.args.point.now in
    record {
      few = omega (arith, gains, count_most c.args.point.now, c.list_heard.ensures.few);
      sides = sides ∙ sym gains;
      samples = omega (
        arith,
        ap (λ n. n * c.args.count) (c.len.ensures ∙ c.list_heard.new.gains.ok.0),
        c.in_ok-make_room.ensures,
      );
    }
