-- `measure_in_parts`: one access taken off the front of the list.
use Rattle.std.proofs.Common.{ℕ, ◌+◌, ◌/◌, ◌%◌, ◌^◌, get_or, ap, ◌∙◌}
use Rattle.machine.specs.Machine.{with_level}
use Rattle.access.proofs.Decoded.{whole-by-word}
use Rattle.bench_by_value.proofs.Total.{summed-next}
use Rattle.bench_in_parts.proofs.measure_in_parts.Goals as goal

pub loop-c-preserved : goal.loop-c-preserved
loop-c-preserved c =
    let before = with_level (get_or c.args.list.now c.loop-c.c-index 0 / 2 ^ 32 % 4) c.loop-c.m in
    summed-next c.args.list.now c.args.x c.loop-c.m c.loop-c.sum c.loop-c-test.true
    (whole-by-word _ _ _ before c.decode-i.ensures c.in_parts_decoded-said.result _ c.in_parts_decoded-said.ensures)
    (ap (λ (n : ℕ). (c.loop-c.sum + n) % 2 ^ 64) c.worth-sum.ensures)
    ∙ c.loop-c.invariant
