-- Laws of decimal and hexadecimal digits: the cases of a number below 10,000, and one hexadecimal digit a turn.
use Prim.Native.Nat.{ℕ, zero, suc, ◌+◌, ◌*◌, ◌/◌, ◌%◌, ◌^◌, ◌<◌, ◌≤◌}
use mathlib.Core.List.{List, [], ◌∷◌, ◌++◌}
use mathlib.Core.Path.{◌≡◌, refl, sym, ◌∙◌, ap}
use native.Mathlib.Numerals.{add-one}
use native.Mathlib.Omega.{arith}
use borrow.Author.Tests.{lt-ltb, le-ltb, ltb-false}
use lib.Dec.{ltb}
use mathlib.Core.Bool.{Bool, true, false, cond}
use lib.ListN.{length, set, length-append}
use lib.Seq.{sets}
use Rattle.text.specs.Text.{decimal_digits, decimal, hex_digit, hex}

pub decimal-1 : (n : ℕ) → n < 10 → decimal n ≡ (48 + n) ∷ []
unfolding decimal
decimal-1 n h = rw (lt-ltb n 10 h)

pub decimal-2 : (n : ℕ) → 10 ≤ n → n < 100 → decimal n ≡ (48 + n / 10) ∷ (48 + n % 10) ∷ []
unfolding decimal
decimal-2 n l h = rw (le-ltb n 10 l, lt-ltb (n / 10) 10 (omega arith))

pub decimal-3 : (n : ℕ) → 100 ≤ n → n < 1000 → decimal n ≡ (48 + n / 100) ∷ (48 + n / 10 % 10) ∷ (48 + n % 10) ∷ []
unfolding decimal
decimal-3 n l h =
    let e : n / 10 / 10 ≡ n / 100 = omega arith in
    rw (le-ltb n 10 (omega arith), le-ltb (n / 10) 10 (omega arith), lt-ltb (n / 10 / 10) 10 (omega arith), e)

pub decimal-4 :
    (n : ℕ) → 1000 ≤ n → n < 10000
    → decimal n ≡ (48 + n / 1000) ∷ (48 + n / 100 % 10) ∷ (48 + n / 10 % 10) ∷ (48 + n % 10) ∷ []
unfolding decimal
decimal-4 n l h =
    let e : n / 10 / 10 / 10 ≡ n / 1000 = omega arith in
    let f : n / 10 / 10 ≡ n / 100 = omega arith in
    rw (
      le-ltb n 10 (omega arith),
      le-ltb (n / 10) 10 (omega arith),
      le-ltb (n / 10 / 10) 10 (omega arith),
      lt-ltb (n / 10 / 10 / 10) 10 (omega arith),
      e,
      f,
    )

-- a number below 10^k has at most k digits
digits-length : (j k n : ℕ) → n < 10 ^ suc k → length (decimal_digits j n) ≤ suc k
digits-length zero k n h = omega arith
digits-length (suc j) k n h = go (ltb n 10) refl k h (digits-length j)
  where
    go :
        (b : Bool) → ltb n 10 ≡ b → (k : ℕ) → n < 10 ^ suc k
        → ((k m : ℕ) → m < 10 ^ suc k → length (decimal_digits j m) ≤ suc k)
        → length (cond b ((48 + n) ∷ []) (decimal_digits j (n / 10) ++ ((48 + n % 10) ∷ []))) ≤ suc k
    go true e k h front = omega arith
    go false e zero h front = let z : ⊥ = omega (arith, ltb-false n 10 e) in absurd z
    go false e (suc k) h front =
        omega (
          arith,
          length-append (decimal_digits j (n / 10)) ((48 + n % 10) ∷ []),
          front k (n / 10) (omega arith),
        )

pub decimal-length : (k n : ℕ) → n < 10 ^ suc k → length (decimal n) ≤ suc k
unfolding decimal
decimal-length k n h = digits-length 20 k n h

pub length-hex : (k x : ℕ) → length (hex k x) ≡ k
unfolding hex
length-hex zero x = refl
length-hex (suc k) x = ap suc (length-hex k x)

-- the highest of k digits
hex-first :
    (k x : ℕ) {d : ℕ} → d ≡ hex_digit (x / 2 ^ (4 * k) % 16) → hex (k + 1) x ≡ (d ∷ []) ++ hex k x
unfolding hex
hex-first k x e = rw (add-one k, e)

-- a digit stored, the highest of those that are left
pub hex-turn :
    (l : List ℕ) (i j x : ℕ) {n m d : ℕ} → n ≡ j + 1 → d ≡ hex_digit (x / 2 ^ (4 * m) % 16) → m ≡ j
    → sets l i (hex n x) ≡ sets (set l i d) (i + 1) (hex j x)
hex-turn l i j x {d = d} e f g =
    ap (λ k. sets l i (hex k x)) e
    ∙ ap (sets l i) (hex-first j x (f ∙ ap (λ k. hex_digit (x / 2 ^ (4 * k) % 16)) g))
    ∙ ap (λ k. sets (set l i d) k (hex j x)) (sym (add-one i))
