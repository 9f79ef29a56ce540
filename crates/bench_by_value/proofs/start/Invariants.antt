-- `start`: what the sets passed made of the record, and what those left will make of it, is the whole.
use Rattle.std.proofs.Common.{◌≡◌, map, drop}
use Rattle.fields.specs.Set.{set_all}
use Rattle.bench_by_value.specs.Measure.{set_of, started}
use Rattle.bench_by_value.proofs.start.Given as goal

abbrev pub invariant-loop-e : goal.invariant-loop-e
invariant-loop-e l = set_all (map set_of (drop l.e-index l.sets)) l.m ≡ started l.sets
