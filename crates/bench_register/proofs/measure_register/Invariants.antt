-- `measure_register`: what the words passed added, and what those left will add, is the whole.
use Rattle.std.proofs.Common.{◌≡◌, ◌+◌, ◌%◌, ◌^◌, drop}
use Rattle.bench_register.specs.Measure.{sum_of, total}
use Rattle.bench_register.proofs.measure_register.Given as goal

abbrev pub invariant-loop-c : goal.invariant-loop-c
invariant-loop-c l = (l.sum + sum_of (drop l.c-index l.list)) % 2 ^ 64 ≡ total l.list
