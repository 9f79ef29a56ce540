-- `flags::raised` meets its contract: a union.
use mathlib.Core.Path.{sym}
use Rattle.rules.proofs.Flags.{raised-union}
use Rattle.flags.proofs.raised.Goals as goal

pub returns : goal.returns
returns c = sym (raised-union c.args.mask c.args.flags)
