-- One less, over the width: it takes one more back, and is the largest 64-bit number more, cut to the width.
use Rattle.std.proofs.Common.{◌≡◌, ℕ, ◌+◌, ◌-◌, ◌%◌, ◌^◌, ◌<◌, Bool, true, false, cond, refl, ap, ◌∙◌, mod-eq_of_lt, arith}
use Rattle.std.proofs.Common.{pow_pos}
use native.Mathlib.Nat.{mod-add-mod, add-mod_right}
use Rattle.rules.specs.Overflow.{width, plus_one}
use Rattle.counters.specs.Decremented.{minus_one}

-- one less than what is left of z + 1 in k bits is what is left of z
less-one-more : (k z : ℕ) → minus_one k (plus_one k z) ≡ z % 2 ^ k
less-one-more k z =
    let whole : z + 1 + (2 ^ k - 1) ≡ z + 2 ^ k = omega (arith, pow_pos k) in
    mod-add-mod (z + 1) (2 ^ k) (2 ^ k - 1) ∙ ap (λ n. n % 2 ^ k) whole ∙ add-mod_right z (2 ^ k)

-- one more, then one less
pub less-more : (k y : ℕ) → y < 2 ^ k → minus_one k (plus_one k y) ≡ y
less-more k y h = less-one-more k y ∙ mod-eq_of_lt h

-- the largest 64-bit number more is 1 less, in a width of 32 or 64 bits
pub more_less :
    (p5 b : Bool) (y : ℕ)
    → cond b ((y + 18446744073709551615) % 2 ^ width p5) y ≡ cond b (minus_one (width p5) y) y
more_less p5 false y = refl
more_less true true y = refl
more_less false true y = omega arith
