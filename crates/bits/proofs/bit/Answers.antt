-- `bits::bit` meets its contract: past bit 63 a number of 64 bits has none.
use mathlib.Core.Path.{sym}
use Rattle.bits.proofs.Single.{bit_past}
use Rattle.bits.proofs.bit.Goals as goal

pub returns-then-m-ge64 : goal.returns-then-m-ge64
returns-then-m-ge64 c = sym (bit_past 64 c.args.m c.ranges.x.fits c.if-m-ge64.true)
