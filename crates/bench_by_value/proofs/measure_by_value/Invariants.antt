-- `measure_by_value`: what the entries passed summed, and what those left will add, is the whole.
use Rattle.std.proofs.Common.{◌≡◌}
use Rattle.bench_by_value.specs.Measure.{started, total}
use Rattle.bench_by_value.proofs.Total.{summed}
use Rattle.bench_by_value.proofs.measure_by_value.Given as goal

abbrev pub invariant-loop-c : goal.invariant-loop-c
invariant-loop-c l = summed l.list l.x l.c-index l.sum l.m ≡ total l.list l.x (started l.sets)
