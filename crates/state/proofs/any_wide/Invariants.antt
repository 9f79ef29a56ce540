use mathlib.Core.Bool.{◌||◌}
use mathlib.Core.Path.{◌≡◌}
use lib.ListN.{drop}
use Rattle.state.specs.State.{any_wide}
use Rattle.state.proofs.any_wide.Given as goal

abbrev pub invariant-loop-x : goal.invariant-loop-x
invariant-loop-x l = any_wide l.counters ≡ l.found || any_wide (drop l.x-index l.counters)
