-- The product may wrap before the sum.
use Rattle.memory_disk.proofs.Common.{ℕ, ◌^◌, ap, ◌∙◌, arith}
use Rattle.std.proofs.{Common.◌*◌, Math.Nat.add-mod-mod}
use Rattle.std.specs.Prelude.{◌%◌}
use Rattle.memory_disk.specs.Images.{next_state}
use Rattle.memory_disk.proofs.draws.next.Goals as goal

pub returns : goal.returns
unfolding next_state
returns c =
    let product = c.args.state * 6364136223846793005 in
    ap (λ (s : ℕ). s % 2 ^ 64) (omega arith)
    ∙ add-mod-mod 1442695040888963407 product (2 ^ 64)
    ∙ ap (λ (s : ℕ). s % 2 ^ 64) (omega arith)
