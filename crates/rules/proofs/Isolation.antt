-- Demand 3: two machines that differ only in what is hidden from EL0, or from EL0 and EL1, answer every list of accesses from
-- there alike and keep that. One induction over the list, over any set of named places that no decision touches;
-- then the four claims, and the same of two consistent machines.
use Prim.Native.Nat.{ℕ}
use mathlib.Core.Bool.{Bool, true, not, ◌&&◌}
use mathlib.Core.List.{List, [], ◌∷◌}
use mathlib.Core.Path.{◌≡◌, refl, sym, ◌∙◌, ap₂, subst, subst⁻¹}
use native.Mathlib.Omega.{arith}
use borrow.Author.Tests.{eq-eqb, leb-true, not-true}
use lib.Dec.{eqb, leb}
use Rattle.machine.specs.declared.Machine.{Machine}
use Rattle.machine.specs.declared.Outcome.{Outcome}
use Rattle.machine.specs.declared.Settings.{Settings}
use Rattle.state.specs.declared.View.{View}
use Rattle.machine.specs.Machine.{with_level}
use Rattle.state.specs.State.{view_of}
use Rattle.state.proofs.Consistent.{not_wide, consistent-at-0}
use Rattle.machine.proofs.Bools.{and_left, and_right}
use Rattle.rules.specs.declared.Decision.{Decision}
use Rattle.rules.specs.Isolation.{Named, Kept, Start, ConsistentMachine, from_levels, Isolated, Claim, Noninterference}
use Rattle.rules.specs.Isolation.{from_hpmn, without_p, instruction_counter, sampling_counter}
use Rattle.rules.specs.Isolation.{hpmn_hides, pmuacr_hides, f0_hides, always}
use Rattle.rules.specs.declared.Place.{Place}
use Rattle.rules.specs.declared.Place.TheVariants.{Counter, Instructions, Interval, Nvmem}
use Rattle.rules.specs.Apply.{value_at, apply}
use Rattle.rules.specs.Step.{Access, decide, step, access, run}
use Rattle.rules.proofs.Alike.{Sound, Alike, Hides, view-alike, answers-alike, stays-alike, kept_by}
use Rattle.rules.proofs.Applied.{settings-stay}
use Rattle.rules.proofs.HiddenCounters.{hpmn-hidden, pmuacr-hidden, f0-hidden, sampling-hidden}

start-sound : {r : Machine} → Start r → Sound r
unfolding view_of
start-sound {r} s = record { sized = s.sized; narrow = not_wide (view_of (with_level 0 r)) s.consistent }

-- no place is in the level
unlevelled : (l : ℕ) (r : Machine) (p : Place) → value_at p (with_level l r) ≡ value_at p r
unlevelled l r (Counter m) = refl
unlevelled l r Instructions = refl
unlevelled l r Interval = refl
unlevelled l r Nvmem = refl

-- the level put to an access's own
at_level : (l : ℕ) {x : Named} {r₁ r₂ : Machine} → Alike x r₁ r₂ → Alike x (with_level l r₁) (with_level l r₂)
unfolding view_of
at_level l {x} {r₁} {r₂} a =
    record {
      same =
          record {
            level = refl;
            settings = a.same.settings;
            events = a.same.events;
            ovs = a.same.ovs;
            places = λ p e n. unlevelled l r₁ p ∙ a.same.places p e n ∙ sym (unlevelled l r₂ p);
          };
      sound₁ = record { sized = a.sound₁.sized; narrow = a.sound₁.narrow };
      sound₂ = record { sized = a.sound₂.sized; narrow = a.sound₂.narrow };
    }

-- kept by an access, then by the rest of the list
kept_on : (x : Named) (l : ℕ) (r s t : Machine) → Kept x (with_level l r) s → Kept x s t → Kept x r t
kept_on x l r s t j k p e n = k p e n ∙ j p e n ∙ unlevelled l r p

-- what one access does to two records that are alike
record Once (x : Named) (r₁ r₂ : Machine) (o₁ o₂ : Outcome) : Type 0 where
  answer : o₁.answer ≡ o₂.answer
  alike : Alike x o₁.machine o₂.machine
  kept₁ : Kept x r₁ o₁.machine
  kept₂ : Kept x r₂ o₂.machine

once-decided :
    {x : Named} {r₁ r₂ : Machine} → Alike x r₁ r₂ → (d : Decision) → Hides x d
    → Once x r₁ r₂ (apply d r₁) (apply d r₂)
once-decided {x} {r₁} {r₂} a d h =
    record {
      answer = answers-alike x r₁ r₂ a d h;
      alike = stays-alike x r₁ r₂ a d h;
      kept₁ = kept_by x d r₁ a.sound₁ h;
      kept₂ = kept_by x d r₂ a.sound₂ h;
    }

once :
    {x : Named} {r₁ r₂ : Machine} → Alike x r₁ r₂ → (w y : ℕ) → Hides x (decide (view_of r₁) w y)
    → Once x r₁ r₂ (step w y r₁) (step w y r₂)
unfolding step
once {x} {r₁} {r₂} a w y h =
    subst (λ (v : View). Once x r₁ r₂ (apply (decide (view_of r₁) w y) r₁) (apply (decide v w y) r₂)) (view-alike a)
    (once-decided a (decide (view_of r₁) w y) h)

module _ (x : Named) (s : Settings) (top : ℕ)
    (hides : (v : View) → v.settings ≡ s → leb v.level top ≡ true → (w y : ℕ) → Hides x (decide v w y)) where
  isolated :
      (accesses : List Access) (r₁ r₂ : Machine) → from_levels top accesses ≡ true → r₁.settings ≡ s → Alike x r₁ r₂
      → Isolated x accesses r₁ r₂
  unfolding run access step view_of
  isolated [] r₁ r₂ l e a =
      record {
        answers = refl;
        same = a.same;
        kept₁ = λ p e n. refl;
        kept₂ = λ p e n. refl;
      }
  isolated (b ∷ rest) r₁ r₂ l e a =
      let low : leb b.level top ≡ true = and_left (leb b.level top) (from_levels top rest) l in
      let o : Once x (with_level b.level r₁) (with_level b.level r₂) (access b r₁) (access b r₂) =
      once (at_level b.level a) b.word b.operand
      (hides (view_of (with_level b.level r₁)) e low b.word b.operand) in
      let i : Isolated x rest (access b r₁).machine (access b r₂).machine =
      isolated rest (access b r₁).machine (access b r₂).machine (and_right (leb b.level top) (from_levels top rest) l)
      (settings-stay (decide (view_of (with_level b.level r₁)) b.word b.operand) (with_level b.level r₁) ∙ e)
      o.alike in
      record {
        answers = ap₂ ◌∷◌ o.answer i.answers;
        same = i.same;
        kept₁ = kept_on x b.level r₁ (access b r₁).machine _ o.kept₁ i.kept₁;
        kept₂ = kept_on x b.level r₂ (access b r₂).machine _ o.kept₂ i.kept₂;
      }

-- no decision under such settings, from level top or below, touches a place named
abbrev HidesAll : ℕ → (Settings → Named) → (Settings → Bool) → Type 0
HidesAll top named when =
    (v : View) → when v.settings ≡ true → leb v.level top ≡ true → (w y : ℕ) → Hides (named v.settings) (decide v w y)

-- where that is so, a claim holds
claim :
    (top : ℕ) (named : Settings → Named) (when : Settings → Bool) → HidesAll top named when → Claim Start top named when
claim top named when hides r₁ r₂ accesses s₁ s₂ c l same =
    isolated (named r₁.settings) r₁.settings top
    (λ v e low w y.
    subst (λ (s : Settings). Hides (named s) (decide v w y)) e
    (hides v (subst⁻¹ (λ (s : Settings). when s ≡ true) e c) low w y))
    accesses r₁ r₂ l refl
    (record { same = same; sound₁ = start-sound s₁; sound₂ = start-sound s₂ })

-- level 0 or below is level 0
el0 : (n : ℕ) → leb n 0 ≡ true → eqb n 0 ≡ true
el0 n h = eq-eqb n 0 (omega (arith, leb-true n 0 h))

all_three : (a b c : Bool) → a && b && c ≡ true → (a ≡ true) × (b ≡ true) × (c ≡ true)
all_three a b c e =
    (and_left a b (and_left (a && b) c e), and_right a b (and_left (a && b) c e), and_right (a && b) c e)

hpmn-hides : HidesAll 1 from_hpmn hpmn_hides
hpmn-hides v e low w y (Counter m) n = hpmn-hidden v m e low n w y
hpmn-hides v e low w y Instructions n = cc
hpmn-hides v e low w y Interval n = cc
hpmn-hides v e low w y Nvmem n = cc

pmuacr-hides : HidesAll 0 without_p pmuacr_hides
pmuacr-hides v e low w y (Counter m) n =
    let t = all_three v.settings.features.p9 v.settings.pmuserenr.uen (not v.settings.pmuserenr.sw) e in
    pmuacr-hidden v m (el0 v.level low) t.0 t.1 (not-true _ t.2) n w y
pmuacr-hides v e low w y Instructions n = cc
pmuacr-hides v e low w y Interval n = cc
pmuacr-hides v e low w y Nvmem n = cc

f0-hides : HidesAll 0 instruction_counter f0_hides
f0-hides v e low w y (Counter m) n = cc
f0-hides v e low w y Instructions n = f0-hidden v (el0 v.level low) (not-true _ e) w y
f0-hides v e low w y Interval n = cc
f0-hides v e low w y Nvmem n = cc

sampling-hides : HidesAll 0 sampling_counter always
sampling-hides v e low w y (Counter m) n = cc
sampling-hides v e low w y Instructions n = cc
sampling-hides v e low w y Interval n = sampling-hidden v (el0 v.level low) Interval (λ m. refl) refl (λ k. refl) w y
sampling-hides v e low w y Nvmem n = sampling-hidden v (el0 v.level low) Nvmem (λ m. refl) refl (λ k. refl) w y

-- demand 3
pub noninterference : Noninterference Start
noninterference =
    record {
      hpmn = claim 1 from_hpmn hpmn_hides hpmn-hides;
      pmuacr = claim 0 without_p pmuacr_hides pmuacr-hides;
      f0 = claim 0 instruction_counter f0_hides f0-hides;
      sampling = claim 0 sampling_counter always sampling-hides;
    }

-- a machine that is consistent at any level meets the start condition
pub consistent-start : {r : Machine} → ConsistentMachine r → Start r
unfolding view_of
consistent-start {r} c = record { sized = c.sized; consistent = consistent-at-0 (view_of r) c.consistent }

of-consistent :
    (top : ℕ) (named : Settings → Named) (when : Settings → Bool) → Claim Start top named when
    → Claim ConsistentMachine top named when
of-consistent top named when demanded r₁ r₂ accesses c₁ c₂ = demanded r₁ r₂ accesses (consistent-start c₁) (consistent-start c₂)

-- and so demand 3 of two consistent machines
pub consistent-noninterference : Noninterference ConsistentMachine
consistent-noninterference =
    record {
      hpmn = of-consistent _ _ _ noninterference.hpmn;
      pmuacr = of-consistent _ _ _ noninterference.pmuacr;
      f0 = of-consistent _ _ _ noninterference.f0;
      sampling = of-consistent _ _ _ noninterference.sampling;
    }
