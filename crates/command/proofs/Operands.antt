-- Laws of little-endian operands: one byte, two operands that follow each other, and an operand behind a command's byte.
use Prim.Native.Nat.{ℕ, suc, ◌+◌, ◌*◌, ◌^◌, ◌<◌, ◌≤◌}
use mathlib.Core.List.{List, [], ◌∷◌, ◌++◌}
use mathlib.Core.Path.{◌≡◌, sym, ◌∙◌, ap}
use native.Mathlib.Nat.{pow-succ', mul_assoc}
use native.Mathlib.Omega.{arith}
use lib.ListN.{length, get_or, take, drop, length-drop}
use lib.Seq.{take-add, drop-drop, drop-cons, length-take-le}
use Rattle.std.proofs.Common.{rules}
use Rattle.std.specs.Int.{w32, w64, from_le_bytes}
use Rattle.command.specs.Operand.{little, operand}

little-append : (a b : List ℕ) → little (a ++ b) ≡ little a + 256 ^ length a * little b
little-append [] b = omega arith
little-append (x ∷ a) b =
    let e : 256 ^ suc (length a) * little b ≡ 256 * (256 ^ length a * little b) =
    ap (λ y. y * little b) (pow-succ' 256 (length a)) ∙ mul_assoc 256 (256 ^ length a) (little b) in
    omega (arith, little-append a b, e)

-- an operand of n + m bytes
pub operand-split :
    (s : List ℕ) (at n m : ℕ) → at + n ≤ length s → operand s at (n + m) ≡ operand s at n + 256 ^ n * operand s (at + n) m
operand-split s at n m h =
    ap little (take-add n m (drop at s))
    ∙ little-append (take n (drop at s)) (take m (drop n (drop at s)))
    ∙ (λ i.
    little (take n (drop at s))
    + 256 ^ length-take-le n (drop at s) (simp length-drop (omega arith)) i * little (take m (drop-drop n at s i)))

-- an operand of one byte
pub operand-one : (s : List ℕ) (at : ℕ) → at < length s → operand s at 1 ≡ get_or s at 0
operand-one s at h = ap (λ l. little (take 1 l)) (drop-cons s at 0 h) ∙ omega arith

-- behind the command's byte
pub operand-behind : (s : List ℕ) (at n : ℕ) → operand (drop 1 s) at n ≡ operand s (1 + at) n
operand-behind s at n = ap (λ l. little (take n l)) (drop-drop at 1 s)

-- the byte behind the command's byte
pub byte-behind : (s : List ℕ) → 1 < length s → get_or s 1 0 ≡ operand (drop 1 s) 0 1
byte-behind s h = sym (operand-behind s 0 1 ∙ operand-one s 1 h)

-- operands of four and of eight bytes, as the library reads them
module _ (s : List ℕ) (at : ℕ) {bytes : List ℕ} {n : ℕ} where
  pub four-read : at + 4 ≤ length s → bytes ≡ take 4 (drop at s) → n ≡ from_le_bytes w32 bytes → n ≡ operand s at 4
  four-read h e p = search rules

  pub eight-read : at + 8 ≤ length s → bytes ≡ take 8 (drop at s) → n ≡ from_le_bytes w64 bytes → n ≡ operand s at 8
  eight-read h e p = search rules
