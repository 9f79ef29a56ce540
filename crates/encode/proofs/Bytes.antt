-- Laws of the bytes of numbers and of commands: how many there are, and the low ones of a number.
use Prim.Native.Nat.{ℕ, zero, suc, ◌/◌, ◌%◌, ◌^◌, ◌≤◌}
use mathlib.Core.List.{List, ◌∷◌}
use mathlib.Core.Path.{◌≡◌, refl, sym, ◌∙◌, ap}
use native.Mathlib.Omega.{arith}
use borrow.Author.Tests.{leb-true}
use lib.ListN.{length, take}
use Rattle.std.specs.Int.{w64, bytes_low_first, to_le_bytes}
use Rattle.std.proofs.Math.Nat.{div-div-eq-div-mul, pow-suc}
use Rattle.form.specs.declared.Form.{Form}
use Rattle.command.specs.Operand.{little_bytes}
use Rattle.bits.proofs.Choice.{either}
use Rattle.encode.specs.Encode.{value_bytes}

pub length-little-bytes : (k n : ℕ) → length (little_bytes k n) ≡ k
length-little-bytes zero n = refl
length-little-bytes (suc k) n = ap suc (length-little-bytes k (n / 256))

-- the low bytes of a number, out of all that the library gives
low_from : (i k j n : ℕ) → k ≤ j → take k (bytes_low_first (suc i) j n) ≡ little_bytes k (n / 256 ^ suc i)
low_from i zero j n h = refl
low_from i (suc k) zero n h = absurd (omega arith)
low_from i (suc k) (suc j) n h =
    let next : n / 256 ^ suc (suc i) ≡ n / 256 ^ suc i / 256 =
    ap (λ m. n / m) (pow-suc 256 (suc i)) ∙ sym (div-div-eq-div-mul n (256 ^ suc i) 256) in
    ap (λ (t : List ℕ). n / 256 ^ suc i % 256 ∷ t) (low_from (suc i) k j n (omega arith) ∙ ap (little_bytes k) next)

pub low-bytes : (k n : ℕ) → k ≤ 8 → take k (to_le_bytes w64 n) ≡ little_bytes k n
low-bytes zero n h = refl
low-bytes (suc k) n h = ap (λ (t : List ℕ). n % 256 ∷ t) (low_from 0 k 7 n (omega arith))

-- a value has 8 bytes or fewer
pub few-value-bytes : (f : Form) (v : ℕ) → value_bytes f v ≤ 8
few-value-bytes Form.Long v = omega arith
few-value-bytes Form.Short v = search (either (λ n. n ≤ 8), leb-true) depth 4
