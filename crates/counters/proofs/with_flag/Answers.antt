-- `counters::with_flag` meets its contract: one flag is set, or none.
use Rattle.std.proofs.Common.{◌<◌, eqb, ltb, sym, arith, ltb-true}
use mathlib.Core.Bool.{and-false}
use Rattle.bits.proofs.Single.{one_shifted}
use Rattle.machine.proofs.Bools.{and_right}
use Rattle.rules.proofs.Flags.{raised-none, raised-one}
use Rattle.counters.proofs.with_flag.Goals as goal

pub returns-then-on-i : goal.returns-then-on-i
returns-then-on-i c =
    let i = c.args.i in
    let below : i < 31 = ltb-true i 31 (and_right c.args.on (ltb i 31) c.if-on-i.true) in
    simp (one_shifted i (omega (arith, below)), c.if-on-i.true) (raised-one i c.args.ovs)

pub returns : goal.returns
returns c =
    simp c.if-on-i.false (sym (raised-none _ c.args.ovs (λ m h. and-false (eqb m c.args.i))))
