-- Every access is taken back by what is kept of it: what is decided writes to places that are there, and adds to counters only
-- where none is above its width.
use Prim.Native.Nat.{ℕ, zero, suc, ◌^◌, ◌<◌}
use mathlib.Core.Bool.{Bool, true, false, not, ◌&&◌}
use mathlib.Core.List.{List, [], ◌∷◌}
use mathlib.Core.Path.{◌≡◌, refl}
use native.Mathlib.Omega.{arith}
use borrow.Author.Tests.{leb-false}
use lib.Dec.{leb}
use lib.ListN.{get_or}
use Rattle.bits.proofs.Choice.{either}
use Rattle.machine.specs.declared.Machine.{Machine}
use Rattle.machine.proofs.Bools.{chosen, or_left, or_right}
use Rattle.rules.specs.declared.Decision.{Decision}
use Rattle.rules.specs.declared.Instruction.{Instruction}
use Rattle.rules.specs.declared.Place.{Place}
use Rattle.rules.specs.declared.Place.TheVariants.{Nvmem, Interval}
use Rattle.rules.specs.declared.Register.{Register}
use Rattle.rules.specs.declared.Register.TheVariants.{Pmevcntr, Pmswinc, Pmicntr, Pmsicr, Other}
use Rattle.rules.specs.declared.Stop.{Stop}
use Rattle.rules.specs.Overflow.{width}
use Rattle.rules.specs.Permitted.{place_access, redirected}
use Rattle.rules.specs.Traps.{stop_of}
use Rattle.rules.specs.Step.{undefined_at_once, permitted, unless_stopped, unless_refused, decide_register, decide_decoded}
use Rattle.rules.specs.Step.{step_decoded}
use Rattle.std.specs.Prelude.{Result, ⊤, Ok, Err}
use Rattle.answer.specs.declared.Refusal.{Refusal}
use Rattle.state.specs.State.{any_wide, view_of, verdict_of}
use Rattle.state.proofs.Consistent.{n-fits, not_wide}
use Rattle.undo.specs.Undo.{change_decoded, undo_of, undone, Typed}
use Rattle.undo.proofs.TakenBack.{InRecord, Takeable, taken_back}

-- with no wide counter each is below 2^32
narrow_at : (c : List ℕ) → any_wide c ≡ false → (m : ℕ) → get_or c m 0 < 2 ^ 32
narrow_at [] e m = omega arith
narrow_at (y ∷ ys) e zero = leb-false (2 ^ 32) y (or_left (leb (2 ^ 32) y) (any_wide ys) e)
narrow_at (y ∷ ys) e (suc m) = narrow_at ys (or_right (leb (2 ^ 32) y) (any_wide ys) e) m

-- so the counters of a consistent record are within their width
within-width :
    (p5 : Bool) (c : List ℕ) → Typed c → not p5 && any_wide c ≡ false → (m : ℕ) → get_or c m 0 < 2 ^ width p5
within-width true c t e = t
within-width false c t e = narrow_at c e

module _ (r : Machine) (typed : Typed r.counters) where
  stopped-takeable : (w : ℕ) (s : Stop) (d : Decision) → Takeable d r → Takeable (unless_stopped w s d) r
  stopped-takeable w Stop.Pass d t = t
  stopped-takeable w Stop.Undef d t = tt
  stopped-takeable w (Stop.Trap l c) d t = tt

  place-takeable : (a b : Bool) (p : Place) (i : Instruction) (x : ℕ) → InRecord p → Takeable (place_access a b p i x) r
  unfolding place_access
  place-takeable a b p i x t = search (chosen (λ (d : Decision). Takeable d r))

  module _ (consistent : verdict_of (view_of r) ≡ Ok tt) (i : Instruction) (x : ℕ) where
    permitted-takeable : (g : Register) → undefined_at_once (view_of r) g i.read ≡ false
        → Takeable (permitted (view_of r) g i x) r
    unfolding view_of
    permitted-takeable (Pmevcntr m) e =
        let n = r.settings.features.n in
        let below = leb-false n m (or_right (not r.settings.features.pmuv3) (leb n m) e) in
        place-takeable _ _ _ i x (omega (arith, below, n-fits (view_of r) consistent))
    permitted-takeable Pmswinc e =
        within-width r.settings.features.p5 r.counters typed (not_wide (view_of r) consistent)
    permitted-takeable Pmicntr e = place-takeable _ _ _ i x tt
    permitted-takeable Pmsicr e =
        place-takeable _ _ _ i x (chosen InRecord (redirected (view_of r)) Nvmem Interval tt tt)
    permitted-takeable Other e = tt

    register-takeable : (g : Register) → Takeable (decide_register (view_of r) g i x) r
    unfolding decide_register
    register-takeable g =
        either (λ (d : Decision). Takeable d r) (undefined_at_once (view_of r) g i.read) _ _ tt
        (λ e. stopped-takeable i.syndrome (stop_of (view_of r) g i.read) _ (permitted-takeable g e))

  decided-takeable : (i : Instruction) (x : ℕ) → Takeable (decide_decoded (view_of r) i x) r
  decided-takeable i x = go (verdict_of (view_of r)) refl
    where
      go : (w : Result ⊤ Refusal) → verdict_of (view_of r) ≡ w
          → Takeable (unless_refused w (decide_register (view_of r) i.register i x)) r
      go (Ok _) e = register-takeable e i x i.register
      go (Err n) e = tt

  -- the access with an instruction, a word taken apart
  pub step-taken-back :
      (i : Instruction) (x : ℕ)
      → undone (undo_of (change_decoded i x r) r) (step_decoded i x r).machine ≡ r
  step-taken-back i x = taken_back r (decide_decoded (view_of r) i x) (decided-takeable i x)
