use Rattle.std.proofs.Common.{◌≡◌, ◌/◌, ◌^◌}
use Rattle.rules.specs.Apply.{incremented}
use Rattle.rules.proofs.Sweep.{sweep}
use Rattle.counters.proofs.FlagTurns.{flagged}
use Rattle.counters.proofs.increment.Given as goal

abbrev pub invariant-loop-i : goal.invariant-loop-i
invariant-loop-i l =
    (l.counters ≡ sweep (incremented l.s.features.p5 l.events l.mask) l.i l.initial.counters)
    × (l.rest ≡ l.mask / 2 ^ l.i)
    × (l.flags ≡ flagged l.s l.events l.mask l.initial.counters l.ovs l.i)
