-- Laws of the bits that an external register shows, as a sum.
use Prim.Native.Nat.{ℕ, ◌+◌, ◌*◌, ◌/◌, ◌%◌, ◌^◌, ◌<◌, ◌≤◌}
use mathlib.Core.Bool.{Bool, true, false, cond, not, ◌&&◌, ◌||◌, and_comm, and-true, or-true, or-false}
use mathlib.Core.Path.{◌≡◌, refl, sym, ◌∙◌, ap, ap₂}
use native.Mathlib.Omega.{arith}
use borrow.Author.Tests.{lt-ltb, le-ltb, ne_eqb, leb-true, leb-false}
use lib.Dec.{leb, ltb}
use Rattle.machine.specs.declared.Settings.{Settings}
use Rattle.bits.specs.Bits.{bit, from_bits}
use Rattle.bits.proofs.Kept.{below-bits}
use Rattle.bits.proofs.FromBits.{digit, from_bits-suc, from_bits-ext, from_bits-mod, bit-from_bits}
use Rattle.rules.specs.External.{external_width, shown, shown_of}

ltb-leb : (m n : ℕ) → ltb m n ≡ not (leb n m)
ltb-leb m n = go (leb n m) refl
  where
    go : (b : Bool) → leb n m ≡ b → ltb m n ≡ not b
    go true e = le-ltb m n (leb-true n m e)
    go false e = lt-ltb m n (leb-false n m e)

-- the bits of x of the event counters below n
counters-below : (n x : ℕ) → from_bits 31 (λ m. ltb m n && bit m x) ≡ x % 2 ^ 31 % 2 ^ n
counters-below n x =
    from_bits-ext 31 _ _ (λ m h. ap (λ b. b && bit m x) (ltb-leb m n) ∙ and_comm (not (leb n m)) (bit m x))
    ∙ sym (below-bits 31 (λ m. bit m x) n)
    ∙ ap (λ y. y % 2 ^ n) (from_bits-mod 31 x)

-- the register is at least 32 bits wide, and 64 with ICNTR
at-least-32 : (m : ℕ) → m < 32 → (b : Bool) → ltb m (cond b 64 32) ≡ true
at-least-32 m h true = lt-ltb m 64 (omega arith)
at-least-32 m h false = lt-ltb m 32 h

-- a bit of x that is shown only where a test holds
part : (k x : ℕ) (b : Bool) → cond (b && bit k x) (2 ^ k) 0 ≡ cond b ((x / 2 ^ k % 2) * 2 ^ k) 0
part k x true = digit k x
part k x false = refl

-- a part that stands only where a test holds is no larger than it
pub part-le : (b : Bool) (y : ℕ) → cond b y 0 ≤ y
part-le true y = omega arith
part-le false y = omega arith

module _ (cycles : Bool) (s : Settings) where
  below-width : (m : ℕ) → m < 32 → ltb m (external_width s) ≡ true
  below-width m h = at-least-32 m h (s.features.ext64 || s.features.p9 || s.features.icntr)

  -- which bits are shown: below 31 those of the event counters below N, then bit 31 where the register has it, then bit 32
  -- with ICNTR
  shown-low : (m : ℕ) → m < 31 → shown cycles s m ≡ ltb m s.features.n
  shown-low m h =
      rw (below-width m (omega arith), lt-ltb m 31 h, ne_eqb m 31 (omega arith), ne_eqb m 32 (omega arith))
      (simp (or-false, and-true))

  shown-31 : shown cycles s 31 ≡ cycles
  shown-31 = rw (below-width 31 (omega arith)) (and-true (cycles || false) ∙ or-false cycles)

  shown-32 : shown cycles s 32 ≡ s.features.icntr
  shown-32 = go s.features.icntr
    where
      go : (b : Bool) → b && ltb 32 (cond (s.features.ext64 || s.features.p9 || b) 64 32) ≡ b
      go true = rw (or-true (s.features.ext64 || s.features.p9))
      go false = refl

  -- what is shown, as a sum
  pub shown-sum :
      (x : ℕ)
      → shown_of cycles s x
      ≡ x % 2 ^ 31 % 2 ^ s.features.n
      + cond cycles ((x / 2 ^ 31 % 2) * 2 ^ 31) 0
      + cond s.features.icntr ((x / 2 ^ 32 % 2) * 2 ^ 32) 0
  unfolding shown_of
  shown-sum x =
      from_bits-suc 32 (λ m. shown cycles s m && bit m x)
      ∙ ap₂ ◌+◌
      (from_bits-suc 31 (λ m. shown cycles s m && bit m x)
      ∙ ap₂ ◌+◌
      (from_bits-ext 31 (λ m. shown cycles s m && bit m x) (λ m. ltb m s.features.n && bit m x)
      (λ m h. ap (λ b. b && bit m x) (shown-low m h))
      ∙ counters-below s.features.n x)
      (ap (λ b. cond (b && bit 31 x) (2 ^ 31) 0) shown-31 ∙ part 31 x cycles))
      (ap (λ b. cond (b && bit 32 x) (2 ^ 32) 0) shown-32 ∙ part 32 x s.features.icntr)

  -- bit 31 of what is shown
  pub shown-bit-31 : (x : ℕ) → bit 31 (shown_of cycles s x) ≡ cycles && bit 31 x
  unfolding shown_of
  shown-bit-31 x = bit-from_bits 33 _ 31 (omega arith) ∙ ap (λ b. b && bit 31 x) shown-31
