-- From an answer that is a trap back to what decided it: a consistent record, an access that is not undefined at once, and a stop
-- of the order of traps. And forward: an access that is not stopped by a cause answers no trap by it.
use Prim.Native.Nat.{ℕ}
use mathlib.Core.Bool.{Bool, true, false, cond, ◌||◌, true≢false}
use mathlib.Core.Path.{◌≡◌, refl, sym, ◌∙◌, ap}
use Rattle.answer.specs.declared.Answer.{Answer}
use Rattle.answer.specs.declared.Cause.{Cause}
use Rattle.answer.specs.declared.Trap.{Trap}
use Rattle.machine.specs.declared.Machine.{Machine}
use Rattle.rules.specs.declared.Decision.{Decision}
use Rattle.rules.specs.declared.Decision.TheVariants.{Says, Read, Write}
use Rattle.rules.specs.declared.Instruction.{Instruction}
use Rattle.rules.specs.declared.Place.{Place}
use Rattle.rules.specs.declared.Register.{Register}
use Rattle.rules.specs.declared.Register.TheVariants.{Pmevcntr, Pmswinc, Pmicntr, Pmsicr, Other}
use Rattle.rules.specs.declared.Stop.{Stop}
use Rattle.rules.specs.Apply.{apply}
use Rattle.rules.specs.Permitted.{place_access, denied, read_only, denied_f0, read_only_ir}
use Rattle.rules.specs.Step.{undefined_at_once, unless_stopped, unless_refused, permitted, decide_register, decide, step}
use Rattle.rules.specs.Traps.{stop_of}
use Rattle.rules.specs.Word.{decode, written}
use Rattle.std.specs.Prelude.{Result, ⊤, Ok, Err}
use Rattle.answer.specs.declared.Refusal.{Refusal}
use Rattle.state.specs.declared.View.{View}
use Rattle.state.specs.State.{view_of, verdict_of}
use Rattle.machine.proofs.Bools.{chosen}
use Rattle.causes.specs.Responsible.{shown_stop, is_by}

abbrev is_pass : Stop → Bool
is_pass Stop.Pass = true
is_pass Stop.Undef = false
is_pass (Stop.Trap l c) = false

module _ (r : Machine) where
  -- what the decision answers
  abbrev said : Decision → Answer
  said d = (apply d r).answer

  -- a decision that answers no trap
  abbrev Quiet : Decision → Type 0
  Quiet d = shown_stop (said d) ≡ Stop.Pass

  quiet-place : (isDenied isReadOnly : Bool) (q : Place) (i : Instruction) (x : ℕ)
      → Quiet (place_access isDenied isReadOnly q i x)
  unfolding place_access apply
  quiet-place isDenied isReadOnly q i x =
      chosen Quiet i.read _ _
      (chosen Quiet isDenied (Says (Answer.Mrs 0 i.rt)) (Read q i.rt) refl refl)
      (chosen Quiet (isDenied || isReadOnly) (Says Answer.Ok) (Write q (written i x)) refl refl)

  -- a permitted access is none
  quiet : (v : View) (g : Register) (i : Instruction) (x : ℕ) → Quiet (permitted v g i x)
  unfolding apply
  quiet v (Pmevcntr m) i x = quiet-place (denied v m) (read_only v) _ i x
  quiet v Pmswinc i x = refl
  quiet v Pmicntr i x = quiet-place (denied_f0 v) (read_only_ir v) _ i x
  quiet v Pmsicr i x = quiet-place false false _ i x
  quiet v Other i x = refl

  -- a trap that is answered is one that the order of traps says
  stop-said :
      (syndrome : ℕ) (s : Stop) (d : Decision) (t : Trap) → Quiet d → said (unless_stopped syndrome s d) ≡ Answer.Trap t
      → s ≡ Stop.Trap t.target t.cause
  unfolding apply
  stop-said syndrome Stop.Pass d t n e = absurd (true≢false (ap is_pass (sym n ∙ ap shown_stop e)))
  stop-said syndrome Stop.Undef d t n e = absurd (true≢false (ap (λ a. is_pass (shown_stop a)) e))
  stop-said syndrome (Stop.Trap l c) d t n e = ap shown_stop e

  -- of an access that is not undefined at once
  defined-said :
      (b : Bool) (d : Decision) (t : Trap) → said (cond b (Says Answer.Undef) d) ≡ Answer.Trap t
      → (b ≡ false) × (said d ≡ Answer.Trap t)
  unfolding apply
  defined-said true d t e = absurd (true≢false (ap (λ a. is_pass (shown_stop a)) e))
  defined-said false d t e = (refl, e)

  -- to a consistent record
  consistent-said :
      (s : Result ⊤ Refusal) (d : Decision) (t : Trap) → said (unless_refused s d) ≡ Answer.Trap t
      → (s ≡ Ok tt) × (said d ≡ Answer.Trap t)
  unfolding apply
  consistent-said (Ok _) d t e = (refl, e)
  consistent-said (Err n) d t e = absurd (true≢false (ap (λ a. is_pass (shown_stop a)) e))

  -- what is known of an access that answers a trap
  pub record Trapped (w : ℕ) (t : Trap) : Type 0 where
    pub consistent : verdict_of (view_of r) ≡ Ok tt
    pub defined : undefined_at_once (view_of r) (decode w).register (decode w).read ≡ false
    pub stops : stop_of (view_of r) (decode w).register (decode w).read ≡ Stop.Trap t.target t.cause

  pub trapped : (w x : ℕ) (t : Trap) → (step w x r).answer ≡ Answer.Trap t → Trapped w t
  unfolding step decide decide_register
  trapped w x t e =
      let v = view_of r in
      let i = decode w in
      let p = consistent-said (verdict_of v) (decide_register v i.register i x) t e in
      let q = defined-said (undefined_at_once v i.register i.read) _ t p.1 in
      record {
        consistent = p.0;
        defined = q.0;
        stops = stop-said i.syndrome _ _ t (quiet v i.register i x) q.1;
      }

-- what is stopped by another control, or not at all, answers no trap by this cause
pub spared-said :
    (r : Machine) (c : Cause) (syndrome : ℕ) (s : Stop) (v : View) (g : Register) (i : Instruction) (x : ℕ) → is_by c s ≡ false
    → is_by c (shown_stop (apply (unless_stopped syndrome s (permitted v g i x)) r).answer) ≡ false
unfolding apply
spared-said r c syndrome Stop.Pass v g i x n = ap (is_by c) (quiet r v g i x)
spared-said r c syndrome Stop.Undef v g i x n = refl
spared-said r c syndrome (Stop.Trap l d) v g i x n = n
