-- Codes read back: in words with its op1 the code at a place stands for the register that the place names, in others for none;
-- and what the place of a word has of the word.
use Prim.Native.Nat.{ℕ, ◌*◌, ◌+◌, ◌/◌, ◌%◌, ◌^◌, ◌<◌}
use mathlib.Core.Bool.{Bool, true, false, ◌&&◌, ◌||◌}
use mathlib.Core.Path.{◌≡◌, refl, sym}
use native.Mathlib.Omega.{arith}
use borrow.Author.Tests.{le-leb, eqb-true, eq-eqb, ne_eqb}
use lib.Dec.{leb, eqb}
use Rattle.machine.proofs.Bools.{chosen, or_left, or_right}
use Rattle.rules.specs.Word.{crn, crm, op2, named, unless_op1_differs}
use Rattle.rules.specs.declared.Register.{Register}
use Rattle.rules.specs.declared.Register.TheVariants.{Pmevcntr, Pmswinc, Pmicntr, Pmsicr, Other}
use Rattle.word.specs.Codes.{place_of, crn_at, code_of, code_at, coded}

-- the code of r stands for r in words with its op1, and for none in others
abbrev ReadBack : ℕ → Register → Type 0
ReadBack o r = coded (code_of r) o ≡ unless_op1_differs o r

counter : (o m : ℕ) → m < 32 → ReadBack o (Pmevcntr m)
unfolding coded
counter o m h =
    let op1 : (3 * 64 + (32 + m)) / 64 ≡ 3 = omega arith in
    let number : (3 * 64 + (32 + m)) % 64 ≡ 32 + m = omega arith in
    let low : (32 + m) % 32 ≡ m = omega arith in
    simp (op1, number, low, le-leb 32 (32 + m) (omega arith))

pub read_back : (k o : ℕ) → coded (code_at k) o ≡ unless_op1_differs o (named (crn_at k) (k / 8 % 16) (k % 8))
unfolding named code_at coded
read_back k o =
    let n = crn_at k in
    let m = k / 8 % 16 in
    chosen (ReadBack o) (eqb n 14 && (leb 8 m && leb m 11)) (Pmevcntr (8 * (m % 4) + k % 8)) _
    (counter o (8 * (m % 4) + k % 8) (omega arith))
    (chosen (ReadBack o) (eqb n 9 && (eqb m 12 && eqb (k % 8) 4)) Pmswinc _ refl
    (chosen (ReadBack o) (eqb n 9 && (eqb m 4 && eqb (k % 8) 0)) Pmicntr _ refl
    (chosen (ReadBack o) (eqb n 9 && (eqb m 9 && eqb (k % 8) 2)) Pmsicr Other refl refl)))

module _ (w : ℕ) where
  by-crn : (t : Bool) → eqb (crn w) 9 ≡ t → t || eqb (crn w) 14 ≡ true → crn_at (place_of w) ≡ crn w
  by-crn true e f =
      let nine = eqb-true (crn w) 9 e in
      simp (eq-eqb (place_of w / 2 ^ 7 % 2) 1 (omega (arith, nine))) (sym nine)
  by-crn false e f =
      let fourteen = eqb-true (crn w) 14 f in
      simp (ne_eqb (place_of w / 2 ^ 7 % 2) 1 (omega (arith, fourteen))) (sym fourteen)

  pub at-crn : eqb (crn w) 9 || eqb (crn w) 14 ≡ true → crn_at (place_of w) ≡ crn w
  at-crn e = by-crn (eqb (crn w) 9) refl e

  pub at-crm : place_of w / 8 % 16 ≡ crm w
  at-crm = omega arith

  pub at-op2 : place_of w % 8 ≡ op2 w
  at-op2 = omega arith

-- with another CRn no register is named
pub elsewhere : (n m o : ℕ) → eqb n 9 || eqb n 14 ≡ false → named n m o ≡ Other
unfolding named
elsewhere n m o e = simp (or_left (eqb n 9) (eqb n 14) e, or_right (eqb n 9) (eqb n 14) e)
