-- The table of registers: the place of a word in it, the code at each place, and the register that a code stands for. What a
-- word names is said by `register` of rules/specs/Word.antt; this is how the code of this crate finds it.
use Rattle.std.specs.Prelude.{ℕ, zero, suc, ◌+◌, ◌*◌, ◌/◌, ◌%◌, Bool, cond, ◌&&◌, ◌||◌, List, [], ◌∷◌, leb, eqb}
use Rattle.bits.specs.Bits.{bit, bits}
use Rattle.rules.specs.Word.{is_mrs_msr, op0, crn, named, op1_of}
use Rattle.rules.specs.declared.Register.{Register}
use Rattle.rules.specs.declared.Register.TheVariants.{Pmevcntr, Pmswinc, Pmicntr, Pmsicr, Other}

-- MODEL W10: the word has a place in the table
abbrev pub has_place : ℕ → Bool
has_place w = is_mrs_msr w && eqb (op0 w) 3 && (eqb (crn w) 9 || eqb (crn w) 14)

-- MODEL W10: the place of a word: the lowest bit of CRn, then CRm, then op2
abbrev pub place_of : ℕ → ℕ
place_of w = bits 12 5 w

-- MODEL W10: the CRn, 9 or 14, of the words that have this place
abbrev pub crn_at : ℕ → ℕ
crn_at k = cond (bit 7 k) 9 14

-- MODEL W10 and W11: the number of a register in its code, 0 for none
abbrev pub number_of : Register → ℕ
number_of (Pmevcntr m) = 32 + m
number_of Pmswinc = 1
number_of Pmicntr = 2
number_of Pmsicr = 3
number_of Other = 0

-- MODEL W11: the code of a register: op1 in bits 7:6, and the number below
abbrev pub code_of : Register → ℕ
code_of r = op1_of r * 64 + number_of r

-- MODEL W10: the code at a place: that of the register which CRn, CRm and op2 name
unfoldable pub code_at : ℕ → ℕ
code_at k = code_of (named (crn_at k) (k / 8 % 16) (k % 8))

-- MODEL W10: f at n places, from place k on
abbrev pub tabulate : (ℕ → ℕ) → ℕ → ℕ → List ℕ
tabulate f zero k = []
tabulate f (suc n) k = f k ∷ tabulate f n (suc k)

-- MODEL W10: the table: the codes at its 256 places
unfoldable pub codes : List ℕ
codes = tabulate code_at 256 0

-- MODEL W11: the register with a number
abbrev pub numbered : ℕ → Register
numbered n =
    cond (leb 32 n) (Pmevcntr (n % 32))
    (cond (eqb n 1) Pmswinc (cond (eqb n 2) Pmicntr (cond (eqb n 3) Pmsicr Other)))

-- MODEL W11: the register that a code stands for in words with op1 o
unfoldable pub coded : ℕ → ℕ → Register
coded c o = cond (eqb o (c / 64)) (numbered (c % 64)) Other
