-- Laws of `from_bits`, over the number of bits: its bits are the ones given, a number is made of its own bits, and equal bits
-- make equal numbers.
use Prim.Native.Nat.{ℕ, zero, suc, ◌+◌, ◌*◌, ◌/◌, ◌%◌, ◌^◌, ◌<◌}
use mathlib.Core.Bool.{Bool, true, false, cond, not, ◌&&◌}
use mathlib.Core.Path.{◌≡◌, refl, sym, ◌∙◌, ap, ap₂}
use native.Mathlib.Nat.{pow-suc, mod-one, mod-lt, zero-mul, one-mul, add_comm}
use native.Mathlib.Numerals.{one-add}
use native.Mathlib.Omega.{arith}
use borrow.Author.Tests.{ltb-true, ltb-false}
use lib.Dec.{eqb, ltb, lit<}
use lib.Pow.{mod-pow-add, high, low}
use Rattle.bits.specs.Bits.{bit, from_bits}
use Rattle.bits.proofs.Single.{bit-mod, bit_past}

-- one bit more
pub from_bits-suc : (k : ℕ) (f : ℕ → Bool) → from_bits (suc k) f ≡ from_bits k f + cond (f k) (2 ^ k) 0
unfolding from_bits
from_bits-suc k f = refl

-- the same bits make the same number
pub from_bits-ext : (k : ℕ) (f g : ℕ → Bool) → ((m : ℕ) → m < k → f m ≡ g m) → from_bits k f ≡ from_bits k g
unfolding from_bits
from_bits-ext zero f g h = refl
from_bits-ext (suc k) f g h =
    ap₂ ◌+◌ (from_bits-ext k f g (λ m l. h m (omega arith))) (ap (λ b. cond b (2 ^ k) 0) (h k (omega arith)))

-- the last k bits of a number
pub digit : (k x : ℕ) → cond (bit k x) (2 ^ k) 0 ≡ (x / 2 ^ k % 2) * 2 ^ k
digit k x = go (x / 2 ^ k % 2) (mod-lt (x / 2 ^ k) (lit< tt))
  where
    go : (d : ℕ) → d < 2 → cond (eqb d 1) (2 ^ k) 0 ≡ d * 2 ^ k
    go zero h = sym (zero-mul (2 ^ k))
    go (suc zero) h = sym (one-mul (2 ^ k))
    go (suc (suc d)) h = let z : ⊥ = omega arith in absurd z

pub from_bits-mod : (k x : ℕ) → from_bits k (λ m. bit m x) ≡ x % 2 ^ k
unfolding from_bits
from_bits-mod zero x = sym (mod-one x)
from_bits-mod (suc k) x =
    ap₂ ◌+◌ (from_bits-mod k x) (digit k x)
    ∙ add_comm (x % 2 ^ k) _
    ∙ sym (mod-pow-add x 1 k)
    ∙ ap (λ n. x % 2 ^ n) (one-add k)

-- the highest bit apart
top : (k : ℕ) (f : ℕ → Bool) → from_bits (suc k) f ≡ cond (f k) 1 0 * 2 ^ k + from_bits k f
unfolding from_bits
top k f = go (f k)
  where
    go : (b : Bool) → from_bits k f + cond b (2 ^ k) 0 ≡ cond b 1 0 * 2 ^ k + from_bits k f
    go true = rw (one-mul (2 ^ k)) (add_comm (from_bits k f) (2 ^ k))
    go false = rw (zero-mul (2 ^ k)) (add_comm (from_bits k f) 0)

pub from_bits-lt : (k : ℕ) (f : ℕ → Bool) → from_bits k f < 2 ^ k
unfolding from_bits
from_bits-lt zero f = lit< tt
from_bits-lt (suc k) f = go (from_bits-lt k f) (f k)
  where
    go : from_bits k f < 2 ^ k → (b : Bool) → from_bits k f + cond b (2 ^ k) 0 < 2 ^ suc k
    go l true = rw (pow-suc 2 k) (omega arith)
    go l false = rw (pow-suc 2 k) (omega arith)

-- the bits of a number made of bits
one_bit : (b : Bool) → eqb (cond b 1 0 % 2) 1 ≡ b
one_bit true = refl
one_bit false = refl

pub bit-from_bits : (k : ℕ) (f : ℕ → Bool) (m : ℕ) → m < k → bit m (from_bits k f) ≡ f m
unfolding from_bits
bit-from_bits zero f m h = let z : ⊥ = omega arith in absurd z
bit-from_bits (suc k) f m h = ap (bit m) (top k f) ∙ go (bit-from_bits k f m) (ltb m k) refl
  where
    go :
        (m < k → bit m (from_bits k f) ≡ f m) → (b : Bool) → ltb m k ≡ b
        → bit m (cond (f k) 1 0 * 2 ^ k + from_bits k f) ≡ f m
    go r true t =
        let l : m < k = ltb-true m k t in
        sym (bit-mod (cond (f k) 1 0 * 2 ^ k + from_bits k f) l) ∙ ap (bit m) (low (cond (f k) 1 0) k (from_bits-lt k f)) ∙ r l
    go r false t =
        let q : m ≡ k = omega (arith, ltb-false m k t) in
        rw q (ap (λ y. eqb (y % 2) 1) (high (cond (f k) 1 0) k (from_bits-lt k f)) ∙ one_bit (f k))

-- a bit that is not given is 0, also past the number's width
pub bit-off : (k : ℕ) (f : ℕ → Bool) (m : ℕ) → f m ≡ false → bit m (from_bits k f) ≡ false
bit-off k f m n = go (ltb m k) refl
  where
    go : (b : Bool) → ltb m k ≡ b → bit m (from_bits k f) ≡ false
    go true t = bit-from_bits k f m (ltb-true m k t) ∙ n
    go false t = bit_past {x = from_bits k f} k m (from_bits-lt k f) (ltb-false m k t)

-- a number's bits in two parts, those that g has and the others
pub from_bits-parts :
    (k : ℕ) (f g : ℕ → Bool)
    → from_bits k (λ m. f m && not (g m)) + from_bits k (λ m. f m && g m) ≡ from_bits k f
unfolding from_bits
from_bits-parts zero f g = refl
from_bits-parts (suc k) f g = go _ _ (from_bits-parts k f g) (f k) (g k)
  where
    go :
        (a b : ℕ) {c : ℕ} → a + b ≡ c → (x y : Bool)
        → (a + cond (x && not y) (2 ^ k) 0) + (b + cond (x && y) (2 ^ k) 0) ≡ c + cond x (2 ^ k) 0
    go a b e true true = omega arith
    go a b e true false = omega arith
    go a b e false y = omega arith
