-- Refusal 10 as an answer: the state test gives it only for a record with a number above its largest, and the decision about a
-- register never does.
use Prim.Native.Nat.{ℕ}
use mathlib.Core.Bool.{Bool, false}
use mathlib.Core.Path.{◌≡◌, refl}
use lib.Dec.{eqb}
use Rattle.answer.specs.declared.Answer.{Answer}
use Rattle.answer.specs.Numbers.{refusal_number}
use Rattle.bits.proofs.Choice.{either, second}
use Rattle.machine.specs.declared.Machine.{Machine}
use Rattle.rules.specs.declared.Decision.{Decision}
use Rattle.rules.specs.declared.Instruction.{Instruction}
use Rattle.rules.specs.declared.Register.{Register}
use Rattle.rules.specs.declared.Register.TheVariants.{Pmevcntr, Pmswinc, Pmicntr, Pmsicr, Other}
use Rattle.rules.specs.declared.Stop.{Stop}
use Rattle.rules.specs.Permitted.{place_access}
use Rattle.rules.specs.Apply.{apply}
use Rattle.rules.specs.Step.{unless_stopped, unless_refused, decide_register, decide, step}
use Rattle.rules.specs.Word.{decode}
use Rattle.std.specs.Prelude.{Result, ⊤, Ok, Err}
use Rattle.answer.specs.declared.Refusal.{Refusal}
use Rattle.state.specs.declared.View.{View}
use Rattle.state.specs.State.{view_of, too_large, refusals, verdict_of}

-- the answer is refusal 10
abbrev pub is_refusal10 : Answer → Bool
is_refusal10 Answer.Ok = false
is_refusal10 Answer.Sampled = false
is_refusal10 Answer.End = false
is_refusal10 Answer.Undef = false
is_refusal10 Answer.Other = false
is_refusal10 Answer.Error = false
is_refusal10 (Answer.Trap t) = false
is_refusal10 (Answer.Value x) = false
is_refusal10 (Answer.Mrs x t) = false
is_refusal10 (Answer.Refused n) = eqb (refusal_number n) 10

-- a verdict other than refusal 10
unfoldable pub Passes : Result ⊤ Refusal → Type 0
Passes (Ok _) = Unit {0}
Passes (Err n) = is_refusal10 (Answer.Refused n) ≡ false

pub verdict-passes : (v : View) → too_large v ≡ false → Passes (verdict_of v)
unfolding verdict_of refusals Passes
verdict-passes v e = search (second Passes, either Passes) depth 9

-- a decision that does not answer refusal 10
abbrev Spares : Machine → Decision → Type 0
Spares r d = is_refusal10 (apply d r).answer ≡ false

module _ (r : Machine) where
  stopped-spares : (w : ℕ) (s : Stop) (d : Decision) → Spares r d → Spares r (unless_stopped w s d)
  unfolding apply
  stopped-spares w Stop.Pass d p = p
  stopped-spares w Stop.Undef d p = refl
  stopped-spares w (Stop.Trap l c) d p = refl

  register-spares : (v : View) (g : Register) (i : Instruction) (x : ℕ) → Spares r (decide_register v g i x)
  unfolding apply decide_register place_access
  register-spares v (Pmevcntr m) i x = search (either (Spares r), stopped-spares)
  register-spares v Pmswinc i x = search (either (Spares r), stopped-spares)
  register-spares v Pmicntr i x = search (either (Spares r), stopped-spares)
  register-spares v Pmsicr i x = search (either (Spares r), stopped-spares)
  register-spares v Other i x = search stopped-spares

  refused-spares : (v : Result ⊤ Refusal) (d : Decision) → Passes v → Spares r d → Spares r (unless_refused v d)
  unfolding Passes apply
  refused-spares (Ok _) d p q = q
  refused-spares (Err n) d p q = p

  pub step-spares : (w x : ℕ) → too_large (view_of r) ≡ false → is_refusal10 (step w x r).answer ≡ false
  unfolding decide step
  step-spares w x b =
      refused-spares _ _ (verdict-passes (view_of r) b) (register-spares (view_of r) (decode w).register (decode w) x)
