-- `counters::flagged` meets its contract: the lower half is all ones, and the counter's width decides; or it does not
-- overflow.
use Rattle.std.proofs.Common.{◌&&◌, eqb, ltb, sym, ap, ◌∙◌}
use mathlib.Core.Bool.{and-false}
use Rattle.rules.specs.Ranges.{long_bit}
use Rattle.rules.proofs.Flags.{raised-none}
use Rattle.counters.proofs.FlagTurns.{no_overflow}
use Rattle.counters.proofs.flagged.Goals as goal

pub returns : goal.returns
returns c =
    let i = c.args.i in
    let long = c.args.s.features.p5 && long_bit c.args.s i in
    sym
    (raised-none _ c.args.ovs
    (λ m h.
    ap (λ b. eqb m i && (b && ltb i 31)) (no_overflow c.args.on long c.args.y c.if-on-y.false)
    ∙ and-false (eqb m i)))
