-- `external_apply::ovs_counted` meets its contract: the flag is set where the counter is at its largest number.
use Rattle.rules.proofs.Flags.{counted-flag}
use Rattle.external_apply.proofs.ovs_counted.Goals as goal

pub returns : goal.returns
returns c =
    simp (c.raised.ensures, c.pick.ensures)
    (counted-flag c.args.y c.args.ovs c.ranges.y.fits)
