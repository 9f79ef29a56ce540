-- `counters::decrement` meets its contract: its loop keeps the invariant, which at the end says the definition.
use Rattle.std.proofs.Common.{◌≤◌, length, get_or, sym, refl, ◌∙◌, arith}
use Rattle.rules.specs.Overflow.{width}
use Rattle.counters.specs.Decremented.{minus_one, decremented}
use Rattle.counters.proofs.Less.{more_less}
use Rattle.counters.proofs.Turns.{half, turn, done-early, done_all}
use Rattle.counters.proofs.decrement.Goals as goal

pub loop-i-preserved : goal.loop-i-preserved
unfolding decremented
loop-i-preserved c =
    let args = c.args in
    let take = decremented args.p5 args.events.now args.mask in
    let i = c.loop-i.i in
    let rest = c.loop-i.rest in
    let inv = c.loop-i.invariant in (
      turn take (minus_one (width args.p5)) args.events.now args.mask (λ m y. refl) _ i rest _ c.loop-i.counters _ inv.0
          inv.1 c.taken-took.ensures (c.stepped.ensures ∙ more_less args.p5 c.taken-took.result (get_or c.loop-i.counters i 0)),
      half _ i rest inv.1,
    )

pub returns-then-rest-eq0 : goal.returns-then-rest-eq0
unfolding decremented
returns-then-rest-eq0 c =
    let args = c.args in
    let take = decremented args.p5 args.events.now args.mask in
    let inv = c.loop-i.invariant in
    let none = sym c.if-rest-eq0.true ∙ inv.1 in
    inv.0 ∙ done-early take (minus_one (width args.p5)) args.events.now args.mask (λ m y. refl) _ c.loop-i.i none

pub returns-after-loop-i : goal.returns-after-loop-i
unfolding decremented
returns-after-loop-i c =
    let args = c.args in
    let take = decremented args.p5 args.events.now args.mask in
    let all : length args.counters.now ≤ c.loop-i.i = omega (arith, c.loop-i-test.false) in
    c.loop-i.invariant.0
    ∙ done_all take (minus_one (width args.p5)) args.events.now args.mask (λ m y. refl) _ c.loop-i.i all
