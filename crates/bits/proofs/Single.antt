-- Laws of single bits: past a number's width, of its remainder, of a power of 2, of a union, of an
-- intersection and of a difference.
use Prim.Native.Nat.{ℕ, zero, suc, ◌+◌, ◌-◌, ◌*◌, ◌/◌, ◌%◌, ◌^◌, ◌<◌, ◌≤◌}
use mathlib.Core.Bool.{Bool, true, false, not, ◌&&◌, ◌||◌}
use mathlib.Core.Path.{◌≡◌, refl, sym, ◌∙◌, ap}
use native.Mathlib.Nat.{div-eq_of_lt, div_self, lt_of_lt_of_le, one-mul, mod-lt, mod_self}
use native.Mathlib.Omega.{arith}
use lib.Bits.{bit_and, bit_or, bit_xor, and_shr, and_mod, or_shr, or_mod, xor_shr, xor_mod}
use borrow.Author.Tests.{ltb-true, ltb-false, eq-eqb, ne_eqb}
use lib.Dec.{eqb, ltb, lit<}
use lib.Pow.{field, pow_pos, pow-lt, pow_mono, shl_exact, mod-mod-pow}
use Rattle.bits.specs.Bits.{bit}

-- past a number's width every bit is 0
pub bit_past : {x : ℕ} (k m : ℕ) → x < 2 ^ k → k ≤ m → bit m x ≡ false
bit_past {x} k m fits past = rw (div-eq_of_lt {n = x} {m = 2 ^ m} (lt_of_lt_of_le fits (pow_mono past)))

-- 1 shifted by less than 64 places loses nothing
pub one_shifted : (n : ℕ) → n < 64 → (1 * 2 ^ n) % 2 ^ 64 ≡ 2 ^ n
one_shifted n h = shl_exact {a = 1} 1 n 64 (lit< tt) (omega arith) ∙ one-mul (2 ^ n)

-- a remainder by 2^n before one by 2^k, where k is at most n, is not seen
pub mod-mod : (x n k : ℕ) → k ≤ n → x % 2 ^ n % 2 ^ k ≡ x % 2 ^ k
mod-mod x n k h = let e : n ≡ (n - k) + k = omega arith in rw e (mod-mod-pow x (n - k) k)

-- 0 has no bit
pub bit-zero : (m : ℕ) → bit m 0 ≡ false
bit-zero m = bit_past {x = 0} 0 m (lit< tt) (omega arith)

-- bit m of a number is bit m of its last k bits, where m is below k
pub bit-mod : (n : ℕ) {m k : ℕ} → m < k → bit m (n % 2 ^ k) ≡ bit m n
bit-mod n {m} {k} h =
    ap (λ y. eqb y 1)
    (sym (field (n % 2 ^ k) 1 m) ∙ ap (λ y. y / 2 ^ m) (mod-mod n k (1 + m) (omega arith)) ∙ field n 1 m)

-- a power of 2 has one bit
pub bit-power : (i m : ℕ) → bit m (2 ^ i) ≡ eqb m i
bit-power i m = go (ltb m i) refl (ltb i m) refl
  where
    go : (a : Bool) → ltb m i ≡ a → (b : Bool) → ltb i m ≡ b → bit m (2 ^ i) ≡ eqb m i
    go true t b u =
        let l : m < i = ltb-true m i t in
        sym (bit-mod (2 ^ i) l) ∙ ap (bit m) (mod_self (2 ^ i)) ∙ bit-zero m ∙ sym (ne_eqb m i (omega arith))
    go false t true u =
        let l : i < m = ltb-true i m u in
        bit_past {x = 2 ^ i} m m (pow-lt l) (omega arith) ∙ sym (ne_eqb m i (omega arith))
    go false t false u =
        let q : m ≡ i = omega (arith, ltb-false m i t, ltb-false i m u) in
        rw q (ap (λ y. eqb (y % 2) 1) (div_self (pow_pos i)) ∙ sym (eq-eqb i i refl))

or-bit : (a b : ℕ) → a < 2 → b < 2 → eqb (bit_or a b) 1 ≡ eqb a 1 || eqb b 1
or-bit zero zero h k = refl
or-bit zero (suc zero) h k = refl
or-bit (suc zero) zero h k = refl
or-bit (suc zero) (suc zero) h k = refl
or-bit zero (suc (suc b)) h k = let z : ⊥ = omega arith in absurd z
or-bit (suc zero) (suc (suc b)) h k = let z : ⊥ = omega arith in absurd z
or-bit (suc (suc a)) b h k = let z : ⊥ = omega arith in absurd z

and-bit : (a b : ℕ) → a < 2 → b < 2 → eqb (bit_and a b) 1 ≡ eqb a 1 && eqb b 1
and-bit zero zero h k = refl
and-bit zero (suc zero) h k = refl
and-bit (suc zero) zero h k = refl
and-bit (suc zero) (suc zero) h k = refl
and-bit zero (suc (suc b)) h k = let z : ⊥ = omega arith in absurd z
and-bit (suc zero) (suc (suc b)) h k = let z : ⊥ = omega arith in absurd z
and-bit (suc (suc a)) b h k = let z : ⊥ = omega arith in absurd z

-- two digits differ
abbrev differs : Bool → Bool → Bool
differs true b = not b
differs false b = b

xor-bit : (a b : ℕ) → a < 2 → b < 2 → eqb (bit_xor a b) 1 ≡ differs (eqb a 1) (eqb b 1)
xor-bit zero zero h k = refl
xor-bit zero (suc zero) h k = refl
xor-bit (suc zero) zero h k = refl
xor-bit (suc zero) (suc zero) h k = refl
xor-bit zero (suc (suc b)) h k = let z : ⊥ = omega arith in absurd z
xor-bit (suc zero) (suc (suc b)) h k = let z : ⊥ = omega arith in absurd z
xor-bit (suc (suc a)) b h k = let z : ⊥ = omega arith in absurd z

left_out : (a b : Bool) → differs a (a && b) ≡ a && not b
left_out true b = refl
left_out false b = refl

module _ (m a b : ℕ) where
  pub bit-or : bit m (bit_or a b) ≡ bit m a || bit m b
  bit-or =
      ap (λ y. eqb y 1) (ap (λ y. y % 2) (or_shr a b m) ∙ or_mod (a / 2 ^ m) (b / 2 ^ m) 1)
      ∙ or-bit (a / 2 ^ m % 2) (b / 2 ^ m % 2) (mod-lt (a / 2 ^ m) (lit< tt)) (mod-lt (b / 2 ^ m) (lit< tt))

  pub bit-and : bit m (bit_and a b) ≡ bit m a && bit m b
  bit-and =
      ap (λ y. eqb y 1) (ap (λ y. y % 2) (and_shr a b m) ∙ and_mod (a / 2 ^ m) (b / 2 ^ m) 1)
      ∙ and-bit (a / 2 ^ m % 2) (b / 2 ^ m % 2) (mod-lt (a / 2 ^ m) (lit< tt)) (mod-lt (b / 2 ^ m) (lit< tt))

  bit-xor : bit m (bit_xor a b) ≡ differs (bit m a) (bit m b)
  bit-xor =
      ap (λ y. eqb y 1) (ap (λ y. y % 2) (xor_shr a b m) ∙ xor_mod (a / 2 ^ m) (b / 2 ^ m) 1)
      ∙ xor-bit (a / 2 ^ m % 2) (b / 2 ^ m % 2) (mod-lt (a / 2 ^ m) (lit< tt)) (mod-lt (b / 2 ^ m) (lit< tt))

-- a number without the bits of another
pub bit-xor-and : (m a b : ℕ) → bit m (bit_xor a (bit_and a b)) ≡ bit m a && not (bit m b)
bit-xor-and m a b =
    bit-xor m a (bit_and a b) ∙ ap (differs (bit m a)) (bit-and m a b) ∙ left_out (bit m a) (bit m b)
