-- `flags::lowered` meets its contract: a difference.
use mathlib.Core.Path.{sym}
use Rattle.rules.proofs.Flags.{lowered-difference}
use Rattle.flags.proofs.lowered.Goals as goal

pub returns : goal.returns
returns c = sym (lowered-difference c.args.mask c.args.flags)
