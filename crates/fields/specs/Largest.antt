-- The fields of the machine record: their numbers, and the largest value of each; the largest level.
use Rattle.std.specs.Prelude.{ℕ, ◌-◌, ◌^◌, Bool, cond, ◌&&◌, ◌||◌, List, [], ◌∷◌, Option, Some, None, leb, ltb, eqb}
use Rattle.bits.specs.Bits.{bit}
use Rattle.machine.specs.First.{first}
use Rattle.store.specs.Store.{within}

-- MODEL F2 to F13, F21 and F23: the numbers of the one-bit fields
abbrev pub is_flag : ℕ → Bool
is_flag f =
    leb f 0x0B
    || within 0x10 0x12 f
    || within 0x20 0x26 f
    || within 0x28 0x31 f
    || eqb f 0x33
    || within 0x35 0x36 f
    || within 0x38 0x3E f
    || within 0x80 0x87 f
    || within 0x89 0x8A f

-- MODEL F2 to F16, F21, F22, F23 and F24: the kinds of fields, by their numbers, and the largest value of each: one bit; N and
-- HPMN; the P bits; the counter enables; the overflow flags; event numbers; NSPB; the reload value; counters, PMSICR_EL1 and the
-- word at 0x838
abbrev pub kinds : ℕ → List (Bool × ℕ)
kinds f =
    (is_flag f, 1)
    ∷ (eqb f 0x0C || eqb f 0x27, 31)
    ∷ (eqb f 0x32, 0x7FFFFFFF)
    ∷ (eqb f 0x34, 0x1FFFFFFFF)
    ∷ (eqb f 0x37, 0x17FFFFFFF)
    ∷ (within 0x40 0x5E f, 0xFFFF)
    ∷ (eqb f 0x88, 3)
    ∷ (eqb f 0x8B, 0xFFFFFFFF)
    ∷ (within 0x60 0x7F f || within 0x8C 0x8D f, 2 ^ 64 - 1)
    ∷ []

-- MODEL F1 and F19: the largest value of the field with this number, and 0 where no field has it
unfoldable pub largest : ℕ → ℕ
largest f = first (kinds f) 0

-- MODEL F19: the number is that of a field
abbrev pub is_field : ℕ → Bool
is_field f = ltb 0 (largest f)

-- MODEL F1 and F19: the largest value, where a field has this number
abbrev pub largest_of_field : ℕ → Option ℕ
largest_of_field f = cond (is_field f) (Some (largest f)) None

-- MODEL R4, R10 and F22: v is above the largest value of field f; of the overflow flags, bit 31 counts as above it
abbrev pub exceeds : ℕ → ℕ → Bool
exceeds v f = (eqb f 0x37 && bit 31 v) || ltb (largest f) v

-- MODEL F17: the largest level
abbrev pub largest_level : ℕ
largest_level = 3
