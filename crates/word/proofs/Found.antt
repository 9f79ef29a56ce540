-- What a word names, by its place in the table: the register that the code there stands for; and none where it has no place.
use Prim.Native.Nat.{ℕ}
use mathlib.Core.Bool.{Bool, true, false, cond, ◌&&◌, ◌||◌}
use mathlib.Core.Path.{◌≡◌, refl, ◌∙◌, sym, ap}
use lib.Dec.{eqb}
use Rattle.machine.proofs.Bools.{and_left, and_right}
use Rattle.rules.specs.Word.{is_mrs_msr, op0, op1, crn, crm, op2, unless_op1_differs, register}
use Rattle.rules.specs.declared.Register.{Register}
use Rattle.rules.specs.declared.Register.TheVariants.{Other}
use Rattle.word.specs.Codes.{has_place, place_of, code_at, coded}
use Rattle.word.proofs.Codes.{read_back, at-crn, at-crm, at-op2, elsewhere}

module _ (w : ℕ) where
  abbrev moves : Bool
  moves = is_mrs_msr w && eqb (op0 w) 3

  abbrev there : Bool
  there = eqb (crn w) 9 || eqb (crn w) 14

  pub found : has_place w ≡ true → coded (code_at (place_of w)) (op1 w) ≡ register w
  unfolding register
  found e =
      read_back (place_of w) (op1 w)
      ∙ simp (at-crn w (and_right moves there e), at-crm w, at-op2 w, and_left moves there e)

  pub missed : has_place w ≡ false → Other ≡ register w
  unfolding register
  missed e = none moves there e (elsewhere (crn w) (crm w) (op2 w))
    where
      neither : (b : Bool) → Other ≡ cond b Other Other
      neither true = refl
      neither false = refl

      none :
          (a b : Bool) {r : Register} → a && b ≡ false → (b ≡ false → r ≡ Other)
          → Other ≡ cond a (unless_op1_differs (op1 w) r) Other
      none true b e f = neither (eqb (op1 w) 0) ∙ sym (ap (unless_op1_differs (op1 w)) (f e))
      none false b e f = refl
