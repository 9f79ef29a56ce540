-- Operands: the number that bytes hold, and the bytes that hold a number.
use Rattle.std.specs.Prelude.{ℕ, zero, suc, ◌+◌, ◌*◌, ◌/◌, ◌%◌, List, [], ◌∷◌, take, drop}

-- MODEL S7: the number that little-endian bytes hold
abbrev pub little : List ℕ → ℕ
little [] = 0
little (b ∷ rest) = b + 256 * little rest

-- MODEL S1: the number in count bytes from a place
abbrev pub operand : List ℕ → ℕ → ℕ → ℕ
operand s at count = little (take count (drop at s))

-- MODEL S7: the low k bytes of a number, little-endian
abbrev pub little_bytes : ℕ → ℕ → List ℕ
little_bytes zero n = []
little_bytes (suc k) n = n % 256 ∷ little_bytes k (n / 256)

-- MODEL S7: v:n of the notation, a value of 8 bytes
abbrev pub v : ℕ → List ℕ
v n = little_bytes 8 n
