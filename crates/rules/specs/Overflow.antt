-- Overflow of counters: where an increment carries, and the flags that are then set.
use Rattle.std.specs.Prelude.{ℕ, ◌+◌, ◌%◌, ◌^◌, Bool, cond, not, ◌&&◌, ◌||◌, leb}
use Rattle.bits.specs.Bits.{bit, from_bits}
use Rattle.machine.specs.declared.Settings.{Settings}
use Rattle.rules.specs.Ranges.{long_bit}

-- MODEL G1 and G11: 64 bits or 32: those of an event counter, with p5 or without it, and those out of which it overflows
abbrev pub width : Bool → ℕ
width wide = cond wide 64 32

-- MODEL G10 and K2: one more, in a width of k bits
abbrev pub plus_one : ℕ → ℕ → ℕ
plus_one k y = (y + 1) % 2 ^ k

-- MODEL G11 and K3: one more carries out of the lowest k bits
abbrev pub carries : ℕ → ℕ → Bool
carries k y = leb (2 ^ k) (y % 2 ^ k + 1)

-- MODEL G11: the bits out of which event counter m overflows; without p5 the long bit is not looked at
abbrev pub overflow_width : Settings → ℕ → ℕ
overflow_width s m = width (s.features.p5 && long_bit s m)

-- MODEL F12 and F22: counter enables and overflow flags stand in 33 bits, of which bit 31 is the enables' alone
abbrev pub flag_bits : ℕ
flag_bits = 33

-- MODEL E8, E12, G13 and K3: flags with those of f set too; none is cleared
unfoldable pub raised : (ℕ → Bool) → ℕ → ℕ
raised f flags = from_bits flag_bits (λ m. bit m flags || f m)

-- MODEL E11: flags with those of f cleared; none is set
unfoldable pub lowered : (ℕ → Bool) → ℕ → ℕ
lowered f flags = from_bits flag_bits (λ m. bit m flags && not (f m))
