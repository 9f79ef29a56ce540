-- Numbers and the bytes that hold them: there and back.
use Prim.Native.Nat.{ℕ, zero, suc, ◌+◌, ◌*◌, ◌/◌, ◌%◌, ◌^◌, ◌<◌, ◌≤◌}
use mathlib.Core.List.{List, [], ◌∷◌, ◌++◌}
use mathlib.Core.Path.{◌≡◌, refl, sym, ◌∙◌, ap, subst}
use native.Mathlib.Nat.{pow-succ'}
use native.Mathlib.Omega.{arith}
use lib.ListN.{length, take, drop, length-drop}
use lib.Seq.{take-add, length-take-le}
use Rattle.command.specs.Operand.{little, operand, little_bytes}
use Rattle.encode.proofs.Bytes.{length-little-bytes}
use Rattle.form_claims.specs.Claims.{AreBytes}

-- the number that its own bytes hold
little-bytes : (k n : ℕ) → n < 256 ^ k → little (little_bytes k n) ≡ n
little-bytes zero n h = omega arith
little-bytes (suc k) n h =
    let size = pow-succ' 256 k in
    let rest = little-bytes k (n / 256) (omega (arith, size)) in
    omega (arith, rest)

-- the bytes of the number that they hold
bytes-little : (l : List ℕ) → AreBytes l → little_bytes (length l) (little l) ≡ l
bytes-little [] h = refl
bytes-little (b ∷ l) h =
    let low : (b + 256 * little l) % 256 ≡ b = omega (arith, h.0) in
    let high : (b + 256 * little l) / 256 ≡ little l = omega (arith, h.0) in
    (λ i. low i ∷ little_bytes (length l) (high i)) ∙ ap (λ (t : List ℕ). b ∷ t) (bytes-little l h.1)

little-bound : (l : List ℕ) → AreBytes l → little l < 256 ^ length l
little-bound [] h = omega arith
little-bound (b ∷ l) h = omega (arith, h.0, little-bound l h.1, pow-succ' 256 (length l))

-- parts of bytes, and bytes one behind the other
pub take-bytes : (n : ℕ) (s : List ℕ) → AreBytes s → AreBytes (take n s)
take-bytes zero s h = tt
take-bytes (suc n) [] h = tt
take-bytes (suc n) (b ∷ s) h = (h.0, take-bytes n s h.1)

pub drop-bytes : (n : ℕ) (s : List ℕ) → AreBytes s → AreBytes (drop n s)
drop-bytes zero s h = h
drop-bytes (suc n) [] h = tt
drop-bytes (suc n) (b ∷ s) h = drop-bytes n s h.1

pub append-bytes : (s t : List ℕ) → AreBytes s → AreBytes t → AreBytes (s ++ t)
append-bytes [] t p q = q
append-bytes (b ∷ s) t p q = (p.0, append-bytes s t p.1 q)

pub little-are-bytes : (k n : ℕ) → AreBytes (little_bytes k n)
little-are-bytes zero n = tt
little-are-bytes (suc k) n = (omega arith, little-are-bytes k (n / 256))

-- an operand of bytes that are there
module _ (s : List ℕ) (h : AreBytes s) (at k : ℕ) (there : at + k ≤ length s) where
  size : length (take k (drop at s)) ≡ k
  size = length-take-le k (drop at s) (simp length-drop (omega arith))

  pub operand-bound : operand s at k < 256 ^ k
  operand-bound =
      let bound = little-bound (take k (drop at s)) (take-bytes k (drop at s) (drop-bytes at s h)) in
      subst (λ n. operand s at k < 256 ^ n) size bound

  pub operand-back : little_bytes k (operand s at k) ≡ take k (drop at s)
  operand-back =
      ap (λ n. little_bytes n (operand s at k)) (sym size)
      ∙ bytes-little (take k (drop at s)) (take-bytes k (drop at s) (drop-bytes at s h))

-- two operands, one behind the other, are the bytes that they were read from
pub operands-back :
    (s : List ℕ) → AreBytes s → (n k : ℕ) → n + k ≤ length s
    → little_bytes n (operand s 0 n) ++ little_bytes k (operand s n k) ≡ take (n + k) s
operands-back s h n k there =
    (λ i. operand-back s h 0 n (omega arith) i ++ operand-back s h n k there i) ∙ sym (take-add n k s)

-- the front of two runs of bytes is the first, and what is behind it the second
take-front : (a b : List ℕ) → take (length a) (a ++ b) ≡ a
take-front [] b = refl
take-front (x ∷ a) b = ap (λ (t : List ℕ). x ∷ t) (take-front a b)

pub drop-front : (a b : List ℕ) → drop (length a) (a ++ b) ≡ b
drop-front [] b = refl
drop-front (x ∷ a) b = drop-front a b

-- the operands that were written are read
pub first_read : (n x : ℕ) (rest : List ℕ) → x < 256 ^ n → operand (little_bytes n x ++ rest) 0 n ≡ x
first_read n x rest h =
    ap (λ m. little (take m (little_bytes n x ++ rest))) (sym (length-little-bytes n x))
    ∙ ap little (take-front (little_bytes n x) rest)
    ∙ little-bytes n x h

pub second-read :
    (n x k y : ℕ) (rest : List ℕ) → y < 256 ^ k → operand (little_bytes n x ++ (little_bytes k y ++ rest)) n k ≡ y
second-read n x k y rest h =
    let second = little_bytes k y ++ rest in
    ap (λ m. little (take k (drop m (little_bytes n x ++ second)))) (sym (length-little-bytes n x))
    ∙ ap (λ (t : List ℕ). little (take k t)) (drop-front (little_bytes n x) second)
    ∙ first_read k y rest h
