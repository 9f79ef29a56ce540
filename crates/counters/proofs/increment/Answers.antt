-- `counters::increment` meets its contract: its loop keeps the invariant, which at the end says the definition.
use Rattle.std.proofs.Common.{◌≤◌, length, get_or, sym, refl, ap, ◌∙◌, arith}
use Rattle.rules.specs.Apply.{incremented}
use Rattle.rules.specs.Overflow.{width, plus_one}
use Rattle.rules.proofs.Sweep.{ahead}
use Rattle.counters.proofs.Turns.{half, turn, done-early, done_all}
use Rattle.counters.proofs.FlagTurns.{flags-start, flag-turn, flags-early, flags-all}
use Rattle.counters.proofs.increment.Goals as goal

pub loop-i-init : goal.loop-i-init
loop-i-init c =
    let args = c.args in
    (refl, omega arith, flags-start args.s args.events.now args.mask args.counters.now args.ovs)

pub loop-i-preserved : goal.loop-i-preserved
unfolding incremented
loop-i-preserved c =
    let args = c.args in
    let i = c.loop-i.i in
    let rest = c.loop-i.rest in
    let inv = c.loop-i.invariant in
    let add = incremented args.s.features.p5 args.events.now args.mask in
    let one = plus_one (width args.s.features.p5) in
    let held = ap (λ l. get_or l i 0) inv.0 ∙ ahead add i args.counters.now i (omega arith) in (
      turn add one args.events.now args.mask (λ m y. refl) _ i rest _ c.loop-i.counters _ inv.0 inv.1
          c.taken-on.ensures c.stepped.ensures,
      half _ i rest inv.1,
      flag-turn args.s args.events.now args.mask args.counters.now args.ovs i rest _ _ c.loop-i.flags _
          inv.2 inv.1 c.taken-on.ensures held c.flagged-flags.ensures,
    )

pub returns-then-rest-eq0 : goal.returns-then-rest-eq0
unfolding incremented
returns-then-rest-eq0 c =
    let args = c.args in
    let i = c.loop-i.i in
    let inv = c.loop-i.invariant in
    let add = incremented args.s.features.p5 args.events.now args.mask in
    let one = plus_one (width args.s.features.p5) in
    let none = sym c.if-rest-eq0.true ∙ inv.1 in (
      inv.2 ∙ flags-early args.s args.events.now args.mask args.counters.now args.ovs i none,
      inv.0 ∙ done-early add one args.events.now args.mask (λ m y. refl) _ i none,
    )

pub returns-after-loop-i : goal.returns-after-loop-i
unfolding incremented
returns-after-loop-i c =
    let args = c.args in
    let i = c.loop-i.i in
    let inv = c.loop-i.invariant in
    let add = incremented args.s.features.p5 args.events.now args.mask in
    let one = plus_one (width args.s.features.p5) in
    let all : length args.counters.now ≤ i = omega (arith, c.loop-i-test.false) in (
      inv.2 ∙ flags-all args.s args.events.now args.mask args.counters.now args.ovs i all,
      inv.0 ∙ done_all add one args.events.now args.mask (λ m y. refl) _ i all,
    )
