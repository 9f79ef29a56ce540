-- `bits::below` meets its contract: from bit 64 on nothing is cut off.
use mathlib.Core.Path.{sym}
use native.Mathlib.Nat.{mod-eq_of_lt, lt_of_lt_of_le}
use lib.Pow.{pow_mono}
use Rattle.bits.proofs.below.Goals as goal

pub returns-then-n-ge64 : goal.returns-then-n-ge64
returns-then-n-ge64 c = sym (mod-eq_of_lt (lt_of_lt_of_le c.ranges.x.fits (pow_mono c.if-n-ge64.true)))
