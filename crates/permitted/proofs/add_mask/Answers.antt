-- `permitted::add_mask` meets its contract: its steps are those of `mask-steps`.
use Rattle.rules.proofs.Mask.{mask-steps}
use Rattle.permitted.proofs.add_mask.Goals as goal

pub returns : goal.returns
returns c =
    simp (
      c.pick.ensures,
      c.pmuacr_binds.ensures,
      c.below_where-accessible.ensures,
      c.below_el2.ensures,
      c.below-implemented.ensures,
      c.enabled_counters.ensures,
    )
    (mask-steps c.args.v c.args.x)
