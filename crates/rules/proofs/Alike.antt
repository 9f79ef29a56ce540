-- One decision on two records that are alike but for named places, which the decision does not touch: the answers are equal,
-- the records stay alike, and each keeps what is named.
use Prim.Native.Nat.{ℕ}
use mathlib.Core.Bool.{Bool, true, false, and-false}
use mathlib.Core.Path.{◌≡◌, refl, sym, ◌∙◌, ap}
use native.Mathlib.Omega.{arith}
use borrow.Author.Tests.{eq-eqb, leb-true, leb-false}
use lib.ListN.{get_or, length, get_or-eq_default}
use Rattle.answer.specs.declared.Answer.{Answer}
use Rattle.machine.specs.declared.Machine.{Machine}
use Rattle.bits.specs.Bits.{bit}
use Rattle.fields.specs.Largest.{exceeds}
use Rattle.state.specs.State.{view_of}
use Rattle.rules.specs.declared.Decision.{Decision}
use Rattle.rules.specs.declared.Decision.TheVariants.{Says, Read, Write, Add}
use Rattle.rules.specs.declared.Place.{Place}
use Rattle.rules.specs.declared.Place.TheVariants.{Counter, Instructions, Interval, Nvmem}
use Rattle.rules.specs.Overflow.{raised}
use Rattle.rules.specs.Apply.{overflows, value_at, shown_by, apply}
use Rattle.rules.specs.Isolation.{Named, is_place, same_place, SameExcept, Kept}
use Rattle.rules.proofs.Applied.{
  Has,
  put-ovs,
  level-stays,
  settings-stay,
  events-stay,
  length-stays,
  value_after,
  untouched,
  wide-stays,
  effect,
}
use Rattle.rules.proofs.Flags.{raised-ext}
use Rattle.rules.proofs.Touches.{touches}

-- a record with 31 counters that refusal 15 does not meet
pub record Sound (r : Machine) : Type 0 where
  pub sized : length r.counters ≡ 31
  pub narrow : (view_of r).wide ≡ false

-- two such records, equal but for the places named
pub record Alike (x : Named) (r₁ r₂ : Machine) : Type 0 where
  pub same : SameExcept x r₁ r₂
  pub sound₁ : Sound r₁
  pub sound₂ : Sound r₂

-- the decision touches no place that is named
abbrev pub Hides : Named → Decision → Type 0
Hides x d = (p : Place) → x p ≡ true → touches p d ≡ false

pub sound-stays : (d : Decision) {r : Machine} → Sound r → Sound (apply d r).machine
sound-stays d {r} s = record { sized = length-stays d r ∙ s.sized; narrow = wide-stays d r s.narrow }

-- the records are seen alike
pub view-alike : {x : Named} {r₁ r₂ : Machine} → Alike x r₁ r₂ → view_of r₁ ≡ view_of r₂
unfolding view_of
view-alike a =
    λ i.
    record {
      level = a.same.level i;
      settings = a.same.settings i;
      wide = (a.sound₁.narrow ∙ sym a.sound₂.narrow) i;
      ovslarge = exceeds (a.same.ovs i) 0x37;
    }

-- a place that the record has
has : {r : Machine} → Sound r → (p : Place) → is_place p ≡ true → Has r p
has s (Counter m) e = omega (arith, leb-true m 30 e, s.sized)
has s Instructions e = tt
has s Interval e = tt
has s Nvmem e = tt

-- past the 31 counters nothing is held
past : {r₁ r₂ : Machine} → Sound r₁ → Sound r₂ → (p : Place) → is_place p ≡ false → value_at p r₁ ≡ value_at p r₂
past {r₁} {r₂} s t (Counter m) e =
    get_or-eq_default r₁.counters 0 (omega (arith, leb-false m 30 e, s.sized))
    ∙ sym (get_or-eq_default r₂.counters 0 (omega (arith, leb-false m 30 e, t.sized)))
past s t Instructions e = cc
past s t Interval e = cc
past s t Nvmem e = cc

-- a place that is not named, also past the 31 counters
not_named : {x : Named} {r₁ r₂ : Machine} → Alike x r₁ r₂ → (p : Place) → x p ≡ false → value_at p r₁ ≡ value_at p r₂
not_named {x} {r₁} {r₂} a p n = go (is_place p) refl
  where
    go : (b : Bool) → is_place p ≡ b → value_at p r₁ ≡ value_at p r₂
    go true e = a.same.places p e n
    go false e = past a.sound₁ a.sound₂ p e

-- what a decision reads is not named
unnamed : (b : Bool) {c : Bool} → (b ≡ true → c ≡ false) → c ≡ true → b ≡ false
unnamed true h e = sym e ∙ h refl
unnamed false h e = refl

same_self : (p : Place) → same_place p p ≡ true
same_self (Counter m) = eq-eqb m m refl
same_self Instructions = refl
same_self Interval = refl
same_self Nvmem = refl

module _ (x : Named) (r₁ r₂ : Machine) (a : Alike x r₁ r₂) where
  pub answers-alike : (d : Decision) → Hides x d → (apply d r₁).answer ≡ (apply d r₂).answer
  unfolding apply
  answers-alike (Says b) h = refl
  answers-alike (Read p rt) h =
      λ i. Answer.Mrs (shown_by p (a.same.settings i) (not_named a p (unnamed (x p) (h p) (same_self p)) i)) rt
  answers-alike (Write p y) h = refl
  answers-alike (Add mask) h = refl

  -- an increment carries alike in both: the counters that it adds to are equal
  carried-alike :
      (mask : ℕ) → Hides x (Add mask) → (m : ℕ)
      → overflows r₁.settings r₁.events mask m (get_or r₁.counters m 0)
      ≡ overflows r₂.settings r₂.events mask m (get_or r₂.counters m 0)
  carried-alike mask h m =
      (λ i. overflows (a.same.settings i) (a.same.events i) mask m (get_or r₁.counters m 0)) ∙ go (bit m mask) refl
    where
      go :
          (b : Bool) → bit m mask ≡ b
          → overflows r₂.settings r₂.events mask m (get_or r₁.counters m 0)
          ≡ overflows r₂.settings r₂.events mask m (get_or r₂.counters m 0)
      go true e =
          ap (overflows r₂.settings r₂.events mask m)
          (not_named a (Counter m) (unnamed (x (Counter m)) (h (Counter m)) e))
      go false e = rw (e, and-false)

  ovs-alike : (d : Decision) → Hides x d → (apply d r₁).machine.values.ovs ≡ (apply d r₂).machine.values.ovs
  unfolding apply
  ovs-alike (Says b) h = a.same.ovs
  ovs-alike (Read p rt) h = a.same.ovs
  ovs-alike (Write p y) h = put-ovs _ r₁ p ∙ a.same.ovs ∙ sym (put-ovs _ r₂ p)
  ovs-alike (Add mask) h = ap (raised _) a.same.ovs ∙ raised-ext _ r₂.values.ovs _ (λ m l. carried-alike mask h m)

  pub stays-alike : (d : Decision) → Hides x d → Alike x (apply d r₁).machine (apply d r₂).machine
  stays-alike d h =
      record {
        same =
            record {
              level = level-stays d r₁ ∙ a.same.level ∙ sym (level-stays d r₂);
              settings = settings-stay d r₁ ∙ a.same.settings ∙ sym (settings-stay d r₂);
              events = events-stay d r₁ ∙ a.same.events ∙ sym (events-stay d r₂);
              ovs = ovs-alike d h;
              places =
                  λ p e n.
                  value_after d r₁ p (has a.sound₁ p e)
                  ∙ (λ i. effect (a.same.settings i) (a.same.events i) d p (a.same.places p e n i))
                  ∙ sym (value_after d r₂ p (has a.sound₂ p e));
            };
        sound₁ = sound-stays d a.sound₁;
        sound₂ = sound-stays d a.sound₂;
      }

-- what is named is kept
pub kept_by : (x : Named) (d : Decision) (r : Machine) → Sound r → Hides x d → Kept x r (apply d r).machine
kept_by x d r s h p e n = value_after d r p (has s p e) ∙ untouched r.settings r.events d p _ (h p n)
