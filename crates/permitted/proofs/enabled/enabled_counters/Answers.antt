-- `permitted::enabled::enabled_counters` meets its contract: its steps are those of `enabled-steps`, whose sum has 31 bits.
use Rattle.rules.proofs.Mask.{enabled-steps}
use Rattle.permitted.proofs.enabled.enabled_counters.Goals as goal

pub returns : goal.returns
returns c =
    simp (c.pick.ensures, c.pick-2.ensures, c.below_where-first_range.ensures) (enabled-steps c.args.s)
