-- No list of accesses from EL0 tells or changes PMSICR or the word at 0x838, whatever the records: no decision from there touches
-- them (Hidden.antt), and what is decided does not look at them.
use Prim.Native.Nat.{ℕ}
use mathlib.Core.Bool.{true, false, true≢false}
use mathlib.Core.List.{[], ◌∷◌}
use mathlib.Core.Path.{◌≡◌, refl, sym, ◌∙◌, ap, ap₂, subst}
use native.Mathlib.Omega.{arith}
use borrow.Author.Tests.{eq-eqb, leb-true}
use lib.Dec.{eqb, leb}
use Rattle.machine.specs.declared.Machine.{Machine}
use Rattle.machine.specs.declared.Outcome.{Outcome}
use Rattle.machine.specs.Machine.{with_level}
use Rattle.machine.proofs.Bools.{and_left, and_right}
use Rattle.state.specs.declared.View.{View}
use Rattle.state.specs.State.{view_of}
use Rattle.rules.specs.declared.Decision.{Decision}
use Rattle.rules.specs.declared.Decision.TheVariants.{Says, Read, Write, Add}
use Rattle.rules.specs.declared.Place.TheVariants.{Counter, Instructions, Interval, Nvmem}
use Rattle.rules.specs.Apply.{apply}
use Rattle.rules.specs.Step.{decide, step, access, run}
use Rattle.rules.specs.Isolation.{from_levels}
use Rattle.rules.specs.SamplingClaim.{without_sampling, SamplingKept, SamplingUnseen}
use Rattle.rules.proofs.HiddenCounters.{sampling-hidden}
use Rattle.rules.proofs.Touches.{touches}

-- a decision that touches neither
record Spares (d : Decision) : Type 0 where
  pmsicr : touches Interval d ≡ false
  nvmem : touches Nvmem d ≡ false

-- what it answers is the same without them
blind-answer : (d : Decision) (r : Machine) → Spares d → (apply d r).answer ≡ (apply d (without_sampling r)).answer
unfolding apply
blind-answer (Says a) r s = refl
blind-answer (Read (Counter m) rt) r s = refl
blind-answer (Read Instructions rt) r s = refl
blind-answer (Read Interval rt) r s = absurd (true≢false s.pmsicr)
blind-answer (Read Nvmem rt) r s = absurd (true≢false s.nvmem)
blind-answer (Write p x) r s = refl
blind-answer (Add mask) r s = refl

-- and so is what it leaves beside them
blind-rest :
    (d : Decision) (r : Machine)
    → without_sampling (apply d r).machine ≡ without_sampling (apply d (without_sampling r)).machine
unfolding apply
blind-rest (Says a) r = refl
blind-rest (Read p rt) r = refl
blind-rest (Write (Counter m) x) r = refl
blind-rest (Write Instructions x) r = refl
blind-rest (Write Interval x) r = refl
blind-rest (Write Nvmem x) r = refl
blind-rest (Add mask) r = refl

-- it leaves them as they were
keeps : (d : Decision) (r : Machine) → Spares d → SamplingKept r (apply d r).machine
unfolding apply
keeps (Says a) r s = record { pmsicr = refl; nvmem = refl }
keeps (Read p rt) r s = record { pmsicr = refl; nvmem = refl }
keeps (Write (Counter m) x) r s = record { pmsicr = refl; nvmem = refl }
keeps (Write Instructions x) r s = record { pmsicr = refl; nvmem = refl }
keeps (Write Interval x) r s = absurd (true≢false s.pmsicr)
keeps (Write Nvmem x) r s = absurd (true≢false s.nvmem)
keeps (Add mask) r s = record { pmsicr = refl; nvmem = refl }

-- no decision from EL0 touches them
spares : (v : View) → leb v.level 0 ≡ true → (w x : ℕ) → Spares (decide v w x)
spares v low w x =
    let el0 : eqb v.level 0 ≡ true = eq-eqb v.level 0 (omega (arith, leb-true v.level 0 low)) in
    record {
      pmsicr = sampling-hidden v el0 Interval (λ m. refl) refl (λ k. refl) w x;
      nvmem = sampling-hidden v el0 Nvmem (λ m. refl) refl (λ k. refl) w x;
    }

-- one access of two records that differ at most in them
record Once (r₁ r₂ : Machine) (o₁ o₂ : Outcome) : Type 0 where
  answer : o₁.answer ≡ o₂.answer
  rest : without_sampling o₁.machine ≡ without_sampling o₂.machine
  kept₁ : SamplingKept r₁ o₁.machine
  kept₂ : SamplingKept r₂ o₂.machine

module _ (r₁ r₂ : Machine) (e : without_sampling r₁ ≡ without_sampling r₂) where
  views-equal : view_of r₁ ≡ view_of r₂
  unfolding view_of
  views-equal = ap view_of e

  once-decided : (d : Decision) → Spares d → Once r₁ r₂ (apply d r₁) (apply d r₂)
  once-decided d s =
      record {
        answer = blind-answer d r₁ s ∙ ap (λ r. (apply d r).answer) e ∙ sym (blind-answer d r₂ s);
        rest = blind-rest d r₁ ∙ ap (λ r. without_sampling (apply d r).machine) e ∙ sym (blind-rest d r₂);
        kept₁ = keeps d r₁ s;
        kept₂ = keeps d r₂ s;
      }

  once : (w x : ℕ) → leb r₁.level 0 ≡ true → Once r₁ r₂ (step w x r₁) (step w x r₂)
  unfolding step view_of
  once w x low =
      let d = decide (view_of r₁) w x in
      subst (λ (v : View). Once r₁ r₂ (apply d r₁) (apply (decide v w x) r₂)) views-equal
      (once-decided d (spares (view_of r₁) low w x))

pub sampling-unseen : SamplingUnseen
unfolding run access
sampling-unseen r₁ r₂ [] l e =
    record {
      answers = refl;
      same = e;
      kept₁ = record { pmsicr = refl; nvmem = refl };
      kept₂ = record { pmsicr = refl; nvmem = refl };
    }
sampling-unseen r₁ r₂ (a ∷ rest) l e =
    let low = and_left (leb a.level 0) (from_levels 0 rest) l in
    let o =
    once (with_level a.level r₁) (with_level a.level r₂) (ap (with_level a.level) e) a.word a.operand low in
    let i =
    sampling-unseen (access a r₁).machine (access a r₂).machine rest (and_right (leb a.level 0) (from_levels 0 rest) l)
    o.rest in
    record {
      answers = ap₂ ◌∷◌ o.answer i.answers;
      same = i.same;
      kept₁ =
          record {
            pmsicr = i.kept₁.pmsicr ∙ o.kept₁.pmsicr;
            nvmem = i.kept₁.nvmem ∙ o.kept₁.nvmem;
          };
      kept₂ =
          record {
            pmsicr = i.kept₂.pmsicr ∙ o.kept₂.pmsicr;
            nvmem = i.kept₂.nvmem ∙ o.kept₂.nvmem;
          };
    }
