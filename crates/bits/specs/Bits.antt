-- Bits of numbers, and numbers made of bits.
use Rattle.std.specs.Prelude.{ℕ, zero, suc, ◌+◌, ◌-◌, ◌/◌, ◌%◌, ◌^◌, Bool, cond, eqb}

-- MODEL B1: bits high:low of a number
abbrev pub bits : ℕ → ℕ → ℕ → ℕ
bits high low w = w / 2 ^ low % 2 ^ (high + 1 - low)

-- MODEL B1: bit m of a number is 1
abbrev pub bit : ℕ → ℕ → Bool
bit m x = eqb (x / 2 ^ m % 2) 1

-- MODEL B2: the number below 2^k whose bit m is f m
unfoldable pub from_bits : ℕ → (ℕ → Bool) → ℕ
from_bits zero f = 0
from_bits (suc k) f = from_bits k f + cond (f k) (2 ^ k) 0
