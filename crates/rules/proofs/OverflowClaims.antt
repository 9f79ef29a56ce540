-- No access reads or clears an overflow flag, and a new flag is that of a counter that went up: the claims of
-- specs/OverflowClaims.antt, each by what one decision does and an induction over the list.
use Prim.Native.Nat.{ℕ, ◌<◌, ◌≤◌}
use mathlib.Core.Bool.{Bool, true, false, ◌&&◌, ◌||◌, or-true, false≢true}
use mathlib.Core.List.{List, [], ◌∷◌}
use mathlib.Core.Path.{◌≡◌, refl, sym, ◌∙◌, ap, ap₂, subst}
use native.Mathlib.Omega.{arith}
use borrow.Author.Tests.{ltb-true, ltb-false}
use lib.Dec.{ltb}
use lib.ListN.{get_or}
use Rattle.bits.specs.Bits.{bit}
use Rattle.bits.proofs.Single.{bit_past}
use Rattle.fields.specs.Largest.{exceeds}
use Rattle.machine.specs.declared.Machine.{Machine}
use Rattle.machine.specs.declared.Outcome.{Outcome}
use Rattle.machine.specs.Machine.{with_level, with_ovs}
use Rattle.machine.proofs.Bools.{and_left, and_right}
use Rattle.state.specs.declared.View.{View}
use Rattle.state.specs.State.{view_of}
use Rattle.state.proofs.Consistent.{ovs-fits}
use Rattle.rules.specs.declared.Decision.{Decision}
use Rattle.rules.specs.declared.Decision.TheVariants.{Says, Read, Write, Add}
use Rattle.rules.specs.declared.Place.TheVariants.{Counter, Instructions, Interval, Nvmem}
use Rattle.rules.specs.Overflow.{flag_bits, raised, carries, overflow_width}
use Rattle.rules.specs.Apply.{added, overflows, apply}
use Rattle.rules.specs.Step.{Access, decide, step, access, run}
use Rattle.rules.specs.Isolation.{Start}
use Rattle.rules.specs.OverflowClaims.{NoneCleared, NewFlagsByIncrements, adds_to, incremented_by, incremented_in}
use Rattle.rules.specs.OverflowClaims.{AlikeButOvs, OverflowClaims}
use Rattle.rules.proofs.Applied.{put-ovs, ovs-stay-within}
use Rattle.rules.proofs.Flags.{raised-bit, raised_keeps, raised_lt}

-- a flag that is 1 stays 1
set-stays :
    (d : Decision) (r : Machine) (m : ℕ) → m < flag_bits → bit m r.values.ovs ≡ true
    → bit m (apply d r).machine.values.ovs ≡ true
unfolding apply
set-stays (Says a) r m h e = e
set-stays (Read p rt) r m h e = e
set-stays (Write p x) r m h e = ap (bit m) (put-ovs _ r p) ∙ e
set-stays (Add mask) r m h e = raised_keeps _ r.values.ovs m h e

pub none-cleared : NoneCleared
unfolding run access step
none-cleared r [] m h e = e
none-cleared r (a ∷ rest) m h e =
    none-cleared (access a r).machine rest m h (set-stays _ (with_level a.level r) m (omega (arith, h)) e)

-- a flag that is new: past the flags there is none, and below it is that of a counter that carried
new-flag :
    (f : ℕ → Bool) (y m : ℕ) → bit m y ≡ false → bit m (raised f y) ≡ true → f m ≡ true
new-flag f y m n e = go (ltb m flag_bits) refl
  where
    go : (b : Bool) → ltb m flag_bits ≡ b → f m ≡ true
    go true t = sym (raised-bit f y m (ltb-true m flag_bits t) ∙ ap (λ b. b || f m) n) ∙ e
    go false t =
        absurd (false≢true (sym (bit_past {x = raised f y} flag_bits m (raised_lt f y) (ltb-false m flag_bits t)) ∙ e))

set-newly :
    (d : Decision) (r : Machine) (m : ℕ) → bit m r.values.ovs ≡ false → bit m (apply d r).machine.values.ovs ≡ true
    → (m ≤ 30) × (adds_to d r.events m ≡ true)
unfolding apply
set-newly (Says a) r m n e = absurd (false≢true (sym n ∙ e))
set-newly (Read p rt) r m n e = absurd (false≢true (sym n ∙ e))
set-newly (Write p x) r m n e = absurd (false≢true (sym n ∙ sym (ap (bit m) (put-ovs _ r p)) ∙ e))
set-newly (Add mask) r m n e =
    let f = new-flag _ r.values.ovs m n e in
    let below = ltb m 31 in
    let adds = added r.events mask m in
    let both = and_left (below && adds) (carries (overflow_width r.settings m) (get_or r.counters m 0)) f in
    (omega (arith, ltb-true m 31 (and_left below adds both)), and_right below adds both)

pub new-flags : NewFlagsByIncrements
unfolding run access step
new-flags r [] m n e = absurd (false≢true (sym n ∙ e))
new-flags r (a ∷ rest) m n e =
    go (bit m (access a r).machine.values.ovs) refl (λ t. new-flags (access a r).machine rest m t e)
  where
    go :
        (b : Bool) → bit m (access a r).machine.values.ovs ≡ b
        → (bit m (access a r).machine.values.ovs ≡ false → (m ≤ 30) × (incremented_in rest (access a r).machine m ≡ true))
        → (m ≤ 30) × (incremented_by a r m || incremented_in rest (access a r).machine m ≡ true)
    go true t ih =
        let s = set-newly _ (with_level a.level r) m n t in
        (s.0, ap (λ b. b || incremented_in rest (access a r).machine m) s.1)
    go false t ih =
        let s = ih t in
        (s.0, ap (λ b. incremented_by a r m || b) s.1 ∙ or-true (incremented_by a r m))

-- a decision does not look at the flags: what it answers, and what it leaves beside them, is the same without them
blind-answer : (d : Decision) (r : Machine) → (apply d r).answer ≡ (apply d (with_ovs 0 r)).answer
unfolding apply
blind-answer (Says a) r = refl
blind-answer (Read (Counter m) rt) r = refl
blind-answer (Read Instructions rt) r = refl
blind-answer (Read Interval rt) r = refl
blind-answer (Read Nvmem rt) r = refl
blind-answer (Write p x) r = refl
blind-answer (Add mask) r = refl

blind-rest : (d : Decision) (r : Machine) → with_ovs 0 (apply d r).machine ≡ with_ovs 0 (apply d (with_ovs 0 r)).machine
unfolding apply
blind-rest (Says a) r = refl
blind-rest (Read p rt) r = refl
blind-rest (Write (Counter m) x) r = refl
blind-rest (Write Instructions x) r = refl
blind-rest (Write Interval x) r = refl
blind-rest (Write Nvmem x) r = refl
blind-rest (Add mask) r = refl

-- a flag after the flags of f were set, from what it was
raised-alike :
    (f g : ℕ → Bool) → ((m : ℕ) → f m ≡ g m) → (y z m : ℕ) → bit m y ≡ bit m z → bit m (raised f y) ≡ bit m (raised g z)
raised-alike f g q y z m e = go (ltb m flag_bits) refl
  where
    go : (b : Bool) → ltb m flag_bits ≡ b → bit m (raised f y) ≡ bit m (raised g z)
    go true t =
        let h = ltb-true m flag_bits t in
        raised-bit f y m h ∙ ap₂ ◌||◌ e (q m) ∙ sym (raised-bit g z m h)
    go false t =
        let h = ltb-false m flag_bits t in
        bit_past {x = raised f y} flag_bits m (raised_lt f y) h ∙ sym (bit_past {x = raised g z} flag_bits m (raised_lt g z) h)

module _ (r₁ r₂ : Machine) (e : with_ovs 0 r₁ ≡ with_ovs 0 r₂) where
  views-equal : exceeds r₁.values.ovs 0x37 ≡ false → exceeds r₂.values.ovs 0x37 ≡ false → view_of r₁ ≡ view_of r₂
  unfolding view_of
  views-equal p q =
      λ i.
      record {
        level = (e i).level;
        settings = (e i).settings;
        wide = (view_of (e i)).wide;
        ovslarge = (p ∙ sym q) i;
      }

  answers-equal : (d : Decision) → (apply d r₁).answer ≡ (apply d r₂).answer
  answers-equal d = blind-answer d r₁ ∙ ap (λ r. (apply d r).answer) e ∙ sym (blind-answer d r₂)

  rests-equal : (d : Decision) → with_ovs 0 (apply d r₁).machine ≡ with_ovs 0 (apply d r₂).machine
  rests-equal d = blind-rest d r₁ ∙ ap (λ r. with_ovs 0 (apply d r).machine) e ∙ sym (blind-rest d r₂)

  -- a flag that is equal in both stays so: the same counters carry in both
  flag-equal :
      (d : Decision) (m : ℕ) → bit m r₁.values.ovs ≡ bit m r₂.values.ovs
      → bit m (apply d r₁).machine.values.ovs ≡ bit m (apply d r₂).machine.values.ovs
  unfolding apply
  flag-equal (Says a) m q = q
  flag-equal (Read p rt) m q = q
  flag-equal (Write p x) m q = ap (bit m) (put-ovs _ r₁ p) ∙ q ∙ sym (ap (bit m) (put-ovs _ r₂ p))
  flag-equal (Add mask) m q =
      raised-alike _ _ (λ n i. overflows (e i).settings (e i).events mask n (get_or (e i).counters n 0)) r₁.values.ovs
      r₂.values.ovs m q

-- one access of two records that differ in the flags alone
record Once (r₁ r₂ : Machine) (o₁ o₂ : Outcome) : Type 0 where
  answer : o₁.answer ≡ o₂.answer
  rest : with_ovs 0 o₁.machine ≡ with_ovs 0 o₂.machine
  flags :
      (m : ℕ) → bit m r₁.values.ovs ≡ bit m r₂.values.ovs
      → bit m o₁.machine.values.ovs ≡ bit m o₂.machine.values.ovs
  fits₁ : exceeds o₁.machine.values.ovs 0x37 ≡ false
  fits₂ : exceeds o₂.machine.values.ovs 0x37 ≡ false

once :
    (w x : ℕ) (r₁ r₂ : Machine) → exceeds r₁.values.ovs 0x37 ≡ false → exceeds r₂.values.ovs 0x37 ≡ false
    → with_ovs 0 r₁ ≡ with_ovs 0 r₂
    → Once r₁ r₂ (step w x r₁) (step w x r₂)
unfolding step
once w x r₁ r₂ p q e =
    let d = decide (view_of r₁) w x in
    subst (λ (v : View). Once r₁ r₂ (apply d r₁) (apply (decide v w x) r₂)) (views-equal r₁ r₂ e p q)
    (record {
      answer = answers-equal r₁ r₂ e d;
      rest = rests-equal r₁ r₂ e d;
      flags = flag-equal r₁ r₂ e d;
      fits₁ = ovs-stay-within d r₁ p;
      fits₂ = ovs-stay-within d r₂ q;
    })

none-read-from :
    (accesses : List Access) (r₁ r₂ : Machine) → exceeds r₁.values.ovs 0x37 ≡ false → exceeds r₂.values.ovs 0x37 ≡ false
    → with_ovs 0 r₁ ≡ with_ovs 0 r₂
    → AlikeButOvs r₁.values.ovs r₂.values.ovs (run accesses r₁) (run accesses r₂)
unfolding run access
none-read-from [] r₁ r₂ p q e = record { answers = refl; same = e; flags = λ m f. f }
none-read-from (a ∷ rest) r₁ r₂ p q e =
    let o = once a.word a.operand (with_level a.level r₁) (with_level a.level r₂) p q (ap (with_level a.level) e) in
    let i = none-read-from rest _ _ o.fits₁ o.fits₂ o.rest in
    record {
      answers = ap₂ ◌∷◌ o.answer i.answers;
      same = i.same;
      flags = λ m f. i.flags m (o.flags m f);
    }

start_fits : {r : Machine} → Start r → exceeds r.values.ovs 0x37 ≡ false
unfolding view_of
start_fits {r} s = ovs-fits (view_of (with_level 0 r)) s.consistent

pub overflow-claims : OverflowClaims
overflow-claims =
    record {
      unread = λ r₁ r₂ accesses s₁ s₂ e. none-read-from accesses r₁ r₂ (start_fits s₁) (start_fits s₂) e;
      uncleared = none-cleared;
      increments = new-flags;
    }
