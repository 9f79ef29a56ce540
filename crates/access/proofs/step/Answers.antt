-- `access::step` meets its contract: the parts that were lent and those that stayed make the record of the definition.
use Rattle.access.proofs.Whole.{whole}
use Rattle.access.proofs.step.Goals as goal

pub returns : goal.returns
returns c =
    whole _ _ c.args.r _ _ _ c.in_parts-said.ensures
