-- Which bits of a number made of bits are left by a remainder, and by an intersection.
use Prim.Native.Nat.{ℕ, ◌%◌, ◌^◌, ◌<◌, ◌≤◌}
use mathlib.Core.Bool.{Bool, true, false, not, ◌&&◌, and-true, and-false}
use mathlib.Core.Path.{◌≡◌, refl, sym, ◌∙◌, ap}
use native.Mathlib.Nat.{mod-eq_of_lt, mod-le, mod-lt}
use native.Mathlib.Omega.{arith}
use borrow.Author.Tests.{leb-true, leb-false}
use lib.Bits.{bit_and, and_le_l}
use lib.Dec.{leb}
use lib.Pow.{pow_pos}
use Rattle.bits.specs.Bits.{bit, from_bits}
use Rattle.bits.proofs.Single.{bit-mod, bit_past, bit-and}
use Rattle.bits.proofs.FromBits.{from_bits-ext, from_bits-mod, from_bits-lt, bit-from_bits}

-- a bit of the remainder by 2^n is one below n
bit_below : (n y m : ℕ) → bit m (y % 2 ^ n) ≡ bit m y && not (leb n m)
bit_below n y m = go (leb n m) refl
  where
    go : (b : Bool) → leb n m ≡ b → bit m (y % 2 ^ n) ≡ bit m y && not b
    go true e = bit_past {x = y % 2 ^ n} n m (mod-lt y (pow_pos n)) (leb-true n m e) ∙ sym (and-false (bit m y))
    go false e = bit-mod y (leb-false n m e) ∙ sym (and-true (bit m y))

module _ (k : ℕ) (f : ℕ → Bool) where
  -- a number below 2^k, by the bits of one that is made of bits
  made_of : (x : ℕ) (g : ℕ → Bool) → x ≤ from_bits k f → ((m : ℕ) → m < k → bit m x ≡ g m) → x ≡ from_bits k g
  made_of x g h e =
      sym (mod-eq_of_lt {n = x} {m = 2 ^ k} (omega (arith, h, from_bits-lt k f)))
      ∙ sym (from_bits-mod k x)
      ∙ from_bits-ext k (λ m. bit m x) g e

  pub below-bits : (n : ℕ) → from_bits k f % 2 ^ n ≡ from_bits k (λ m. f m && not (leb n m))
  below-bits n =
      made_of (from_bits k f % 2 ^ n) _ (mod-le (from_bits k f) (2 ^ n))
      (λ m h. bit_below n (from_bits k f) m ∙ ap (λ b. b && not (leb n m)) (bit-from_bits k f m h))

  pub among-bits : (p : ℕ) → bit_and (from_bits k f) p ≡ from_bits k (λ m. f m && bit m p)
  among-bits p =
      made_of (bit_and (from_bits k f) p) _ (and_le_l (from_bits k f) p)
      (λ m h. bit-and m (from_bits k f) p ∙ ap (λ b. b && bit m p) (bit-from_bits k f m h))
