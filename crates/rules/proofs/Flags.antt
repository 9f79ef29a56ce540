-- Laws of flags that are set and cleared: bit by bit, one set after another, as operations on whole numbers, and that they stay
-- within field 37.
use Prim.Native.Nat.{ℕ, ◌-◌, ◌/◌, ◌%◌, ◌^◌, ◌<◌}
use mathlib.Core.Bool.{Bool, true, false, cond, not, ◌&&◌, ◌||◌, and-true, and-false, or_assoc, or-false}
use mathlib.Core.Path.{◌≡◌, sym, ◌∙◌, ap}
use native.Mathlib.Nat.{mod-eq_of_lt}
use native.Mathlib.Omega.{arith}
use borrow.Author.Tests.{le-ltb, eqb-false}
use lib.Dec.{eqb}
use lib.Bits.{bit_and, bit_or, bit_xor}
use Rattle.bits.specs.Bits.{bit}
use Rattle.bits.proofs.FromBits.{from_bits-ext, from_bits-mod, from_bits-lt, bit-from_bits}
use Rattle.bits.proofs.Single.{bit-zero, bit-power, bit-or, bit-xor-and}
use Rattle.fields.specs.Largest.{largest, exceeds}
use Rattle.machine.proofs.Bools.{or_left}
use Rattle.rules.specs.Overflow.{carries, flag_bits, raised, lowered}
use Rattle.rules.specs.External.{ovs_counted}
use Rattle.rules.proofs.Width.{carries-ones}

module _ (f : ℕ → Bool) (y : ℕ) where
  pub raised-bit : (m : ℕ) → m < flag_bits → bit m (raised f y) ≡ bit m y || f m
  unfolding raised
  raised-bit m h = bit-from_bits flag_bits _ m h

  pub lowered-bit : (m : ℕ) → m < flag_bits → bit m (lowered f y) ≡ bit m y && not (f m)
  unfolding lowered
  lowered-bit m h = bit-from_bits flag_bits _ m h

  -- a flag that is 1 stays 1
  pub raised_keeps : (m : ℕ) → m < flag_bits → bit m y ≡ true → bit m (raised f y) ≡ true
  raised_keeps m h e = raised-bit m h ∙ ap (λ b. b || f m) e

  pub raised_lt : raised f y < 2 ^ flag_bits
  unfolding raised
  raised_lt = from_bits-lt flag_bits _

  pub lowered-lt : lowered f y < 2 ^ flag_bits
  unfolding lowered
  lowered-lt = from_bits-lt flag_bits _

  -- the same flags
  pub raised-ext : (g : ℕ → Bool) → ((m : ℕ) → m < flag_bits → f m ≡ g m) → raised f y ≡ raised g y
  unfolding raised
  raised-ext g e = from_bits-ext flag_bits _ _ (λ m h. ap (λ b. bit m y || b) (e m h))

  -- none
  pub raised-none : ((m : ℕ) → m < flag_bits → f m ≡ false) → raised f y ≡ y % 2 ^ flag_bits
  unfolding raised
  raised-none e =
      from_bits-ext flag_bits _ _ (λ m h. ap (λ b. bit m y || b) (e m h) ∙ or-false (bit m y)) ∙ from_bits-mod flag_bits y

  -- one set after another
  pub raised-on : (g : ℕ → Bool) → raised g (raised f y) ≡ raised (λ m. f m || g m) y
  unfolding raised
  raised-on g =
      from_bits-ext flag_bits _ _ (λ m h. ap (λ b. b || g m) (raised-bit m h) ∙ or_assoc (bit m y) (f m) (g m))

-- the flags of a mask, as a union and as a difference
module _ (mask y : ℕ) where
  pub raised-union : raised (λ m. bit m mask) y ≡ bit_or y mask % 2 ^ flag_bits
  unfolding raised
  raised-union = from_bits-ext flag_bits _ _ (λ m h. sym (bit-or m y mask)) ∙ from_bits-mod flag_bits (bit_or y mask)

  pub lowered-difference : lowered (λ m. bit m mask) y ≡ bit_xor y (bit_and y mask) % 2 ^ flag_bits
  unfolding lowered
  lowered-difference =
      from_bits-ext flag_bits _ _ (λ m h. sym (bit-xor-and m y mask)) ∙ from_bits-mod flag_bits (bit_xor y (bit_and y mask))

-- a mask of one flag, where a test holds
pub flag-where : (b : Bool) (i m : ℕ) → bit m (cond b (2 ^ i) 0) ≡ eqb m i && b
flag-where true i m = bit-power i m ∙ sym (and-true (eqb m i))
flag-where false i m = bit-zero m ∙ sym (and-false (eqb m i))

pub raised-one : (i y : ℕ) → bit_or y (2 ^ i) % 2 ^ flag_bits ≡ raised (λ m. eqb m i && true) y
raised-one i y = sym (raised-union (2 ^ i) y) ∙ raised-ext _ y _ (λ m h. flag-where true i m)

-- the flag of the instruction counter, by the one value at which one more carries
pub counted-flag :
    (y ovs : ℕ) → y < 2 ^ 64
    → raised (λ m. bit m (cond (eqb y (2 ^ 64 - 1)) (2 ^ 32) 0)) ovs ≡ ovs_counted y ovs
counted-flag y ovs h =
    let carry : eqb y (2 ^ 64 - 1) ≡ carries 64 y =
    sym (carries-ones 64 y ∙ ap (λ z. eqb z (2 ^ 64 - 1)) (mod-eq_of_lt h)) in
    raised-ext _ ovs _ (λ m l. flag-where (eqb y (2 ^ 64 - 1)) 32 m ∙ ap (λ b. eqb m 32 && b) carry)

-- a number of 33 bits whose bit 31 is 0 is within field 37
within-flags : (z : ℕ) → z < 2 ^ flag_bits → bit 31 z ≡ false → exceeds z 0x37 ≡ false
unfolding largest
within-flags z h e = rw e (le-ltb 0x17FFFFFFF z (omega (arith, h, eqb-false (z / 2 ^ 31 % 2) 1 e)))

module _ (f : ℕ → Bool) (y : ℕ) (fits : exceeds y 0x37 ≡ false) where
  bit-31 : bit 31 y ≡ false
  bit-31 = or_left (bit 31 y) _ fits

  pub raised-fits : f 31 ≡ false → exceeds (raised f y) 0x37 ≡ false
  raised-fits n =
      within-flags (raised f y) (raised_lt f y) (raised-bit f y 31 (omega arith) ∙ ap (λ b. b || f 31) bit-31 ∙ n)

  pub lowered-fits : exceeds (lowered f y) 0x37 ≡ false
  lowered-fits =
      within-flags (lowered f y) (lowered-lt f y) (lowered-bit f y 31 (omega arith) ∙ ap (λ b. b && not (f 31)) bit-31)
