-- A word taken apart, the register that it names, what a write stores, and the syndrome of a trap.
use Rattle.std.specs.Prelude.{ℕ, ◌+◌, ◌*◌, ◌%◌, ◌^◌, Bool, cond, ◌&&◌, leb, eqb}
use Rattle.bits.specs.Bits.{bits}
use Rattle.rules.specs.declared.Instruction.{Instruction}
use Rattle.rules.specs.declared.Register.{Register}
use Rattle.rules.specs.declared.Register.TheVariants.{Pmevcntr, Pmswinc, Pmicntr, Pmsicr, Other}

-- MODEL W1: the word moves a system register
abbrev pub is_mrs_msr : ℕ → Bool
is_mrs_msr w = eqb (bits 31 22 w) 0x354 && eqb (bits 20 20 w) 1

-- MODEL W2: the direction, 1 for MRS and 0 for MSR
abbrev pub direction : ℕ → ℕ
direction w = bits 21 21 w

-- MODEL W2: the word is MRS
abbrev pub is_read : ℕ → Bool
is_read w = eqb (direction w) 1

-- MODEL W3: op0 has one bit in the word, and is 2 or 3
abbrev pub op0 : ℕ → ℕ
op0 w = bits 19 19 w + 2

-- MODEL W3: op1
abbrev pub op1 : ℕ → ℕ
op1 w = bits 18 16 w

-- MODEL W3: CRn
abbrev pub crn : ℕ → ℕ
crn w = bits 15 12 w

-- MODEL W3: CRm
abbrev pub crm : ℕ → ℕ
crm w = bits 11 8 w

-- MODEL W3: op2
abbrev pub op2 : ℕ → ℕ
op2 w = bits 7 5 w

-- MODEL W3: Rt, the number of the general register
abbrev pub rt : ℕ → ℕ
rt w = w % 2 ^ 5

-- MODEL W4 to W7 and W12: the register that CRn, CRm and op2 name
unfoldable pub named : ℕ → ℕ → ℕ → Register
named n m o =
    cond (eqb n 14 && (leb 8 m && leb m 11)) (Pmevcntr (8 * (m % 4) + o))
    (cond (eqb n 9 && (eqb m 12 && eqb o 4)) Pmswinc
    (cond (eqb n 9 && (eqb m 4 && eqb o 0)) Pmicntr
    (cond (eqb n 9 && (eqb m 9 && eqb o 2)) Pmsicr Other)))

-- MODEL W4 to W7 and W12: the op1 of a register's words; for no register any will do
abbrev pub op1_of : Register → ℕ
op1_of (Pmevcntr m) = 3
op1_of Pmswinc = 3
op1_of Pmicntr = 3
op1_of Pmsicr = 0
op1_of Other = 0

-- MODEL W4 to W7 and W12: a register that is named, in words with op1 o
abbrev pub unless_op1_differs : ℕ → Register → Register
unless_op1_differs o r = cond (eqb o (op1_of r)) r Other

-- MODEL W4 to W7 and W12: the register of a word; every word that is none of the model's registers' is `other`
unfoldable pub register : ℕ → Register
register w =
    cond (is_mrs_msr w && eqb (op0 w) 3) (unless_op1_differs (op1 w) (named (crn w) (crm w) (op2 w))) Other

-- MODEL W9: the syndrome, each part of the word at its place in it
unfoldable pub syndrome : ℕ → ℕ
syndrome w =
    0x18 * 2 ^ 26
    + 2 ^ 25
    + op0 w * 2 ^ 20
    + op2 w * 2 ^ 17
    + op1 w * 2 ^ 14
    + crn w * 2 ^ 10
    + rt w * 2 ^ 5
    + crm w * 2
    + direction w

-- MODEL W1 to W7, W9 and W12: a word taken apart, once for all that follows: register, direction, Rt and syndrome
unfoldable pub decode : ℕ → Instruction
decode w = record { register = register w; read = is_read w; rt = rt w; syndrome = syndrome w }

-- MODEL W8: what a write stores. Only writes use this
unfoldable pub written : Instruction → ℕ → ℕ
written i operand = cond (eqb i.rt 31) 0 operand
