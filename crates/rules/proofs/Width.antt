-- Laws of counters over their width: what a counter holds of a number, one more, and where that carries.
use Prim.Native.Nat.{ℕ, ◌+◌, ◌-◌, ◌%◌, ◌^◌, ◌≤◌}
use mathlib.Core.Bool.{Bool, true, false}
use mathlib.Core.Path.{◌≡◌, refl}
use native.Mathlib.Nat.{mod-lt}
use native.Mathlib.Omega.{arith}
use borrow.Author.Tests.{le-leb, lt-leb, eqb-true, eqb-false}
use lib.Dec.{eqb}
use lib.Pow.{pow_pos}
use Rattle.bits.proofs.Single.{mod-mod}
use Rattle.rules.specs.Overflow.{width, plus_one, carries}

-- a counter has at most 64 bits
pub width-le : (p5 : Bool) → width p5 ≤ 64
width-le true = omega arith
width-le false = omega arith

-- one more by a 64-bit addition that wraps, cut to the counter's width
pub one_more : (p5 : Bool) (y : ℕ) → (y + 1) % 2 ^ 64 % 2 ^ width p5 ≡ plus_one (width p5) y
one_more p5 y = mod-mod (y + 1) 64 (width p5) (width-le p5)

-- one more carries out of k bits exactly where these are all 1
pub carries-ones : (k y : ℕ) → carries k y ≡ eqb (y % 2 ^ k) (2 ^ k - 1)
carries-ones k y = go (eqb (y % 2 ^ k) (2 ^ k - 1)) refl
  where
    go : (b : Bool) → eqb (y % 2 ^ k) (2 ^ k - 1) ≡ b → carries k y ≡ b
    go true e = le-leb (2 ^ k) (y % 2 ^ k + 1) (omega (arith, eqb-true (y % 2 ^ k) (2 ^ k - 1) e, pow_pos k))
    go false e =
        lt-leb (2 ^ k) (y % 2 ^ k + 1)
        (omega (arith, eqb-false (y % 2 ^ k) (2 ^ k - 1) e, mod-lt y (pow_pos k), pow_pos k))
