-- Text as lists of bytes: a fixed text, a number in decimal, and the low bits of a number in uppercase hexadecimal.
use Rattle.std.specs.Prelude.{ℕ, zero, suc, ◌+◌, ◌*◌, ◌/◌, ◌%◌, ◌^◌, cond, List, [], ◌∷◌, ◌++◌, ltb}
use Prim.Native.Char.{code}
use Prim.Native.String.{String, [] as empty, ◌∷◌ as ◌then◌}

-- MODEL L1: the bytes of an ASCII text
abbrev pub bytes : String → List ℕ
bytes empty = []
bytes (c then s) = code c ∷ bytes s

-- MODEL L3: the digit of a number below 10
abbrev pub decimal_digit : ℕ → ℕ
decimal_digit d = 48 + d

-- MODEL L3: n in decimal, without leading zeros, where it has no more than k digits
abbrev pub decimal_digits : ℕ → ℕ → List ℕ
decimal_digits zero n = []
decimal_digits (suc k) n =
    let front = decimal_digits k (n / 10) in
    cond (ltb n 10) (decimal_digit n ∷ []) (front ++ (decimal_digit (n % 10) ∷ []))

-- MODEL L3: n in decimal; 20 digits are enough for any 64-bit number
unfoldable pub decimal : ℕ → List ℕ
decimal n = decimal_digits 20 n

-- MODEL L3: the uppercase digit of a number below 16
abbrev pub hex_digit : ℕ → ℕ
hex_digit d = cond (ltb d 10) (48 + d) (55 + d)

-- MODEL L3: k uppercase hexadecimal digits of x, of four bits each, the highest first
unfoldable pub hex : ℕ → ℕ → List ℕ
hex zero x = []
hex (suc k) x = hex_digit (x / 2 ^ (4 * k) % 16) ∷ hex k x
