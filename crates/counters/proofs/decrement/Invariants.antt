use Rattle.std.proofs.Common.{◌≡◌, ◌/◌, ◌^◌}
use Rattle.rules.proofs.Sweep.{sweep}
use Rattle.counters.specs.Decremented.{decremented}
use Rattle.counters.proofs.decrement.Given as goal

abbrev pub invariant-loop-i : goal.invariant-loop-i
invariant-loop-i l =
    (l.counters ≡ sweep (decremented l.p5 l.events l.mask) l.i l.initial.counters)
    × (l.rest ≡ l.mask / 2 ^ l.i)
