-- What a decision leaves in a record: the level, settings and event numbers as they were, each place by a function of what it
-- held alone, no counter wider than before, and the overflow flags within their field.
use Prim.Native.Nat.{ℕ, ◌+◌, ◌%◌, ◌^◌, ◌<◌}
use mathlib.Core.Bool.{Bool, true, false, cond, not, ◌&&◌}
use mathlib.Core.List.{List}
use mathlib.Core.Path.{◌≡◌, refl, ◌∙◌, ap}
use native.Mathlib.Nat.{mod-lt}
use borrow.Author.Tests.{lt-leb}
use lib.Dec.{leb, lit<}
use lib.ListN.{length, length-set}
use Rattle.fields.specs.Largest.{exceeds}
use Rattle.machine.specs.declared.Machine.{Machine}
use Rattle.machine.specs.declared.Settings.{Settings}
use Rattle.machine.specs.Machine.{with_counters, with_values}
use Rattle.state.specs.State.{any_wide, view_of}
use Rattle.rules.specs.declared.Decision.{Decision}
use Rattle.rules.specs.declared.Decision.TheVariants.{Says, Read, Write, Add}
use Rattle.rules.specs.declared.Place.{Place}
use Rattle.rules.specs.declared.Place.TheVariants.{Counter, Instructions, Interval, Nvmem}
use Rattle.rules.specs.Overflow.{width, plus_one}
use Rattle.rules.specs.Apply.{added, incremented, value_at, with_value, taken_by, apply}
use Rattle.rules.specs.Isolation.{same_place}
use Rattle.rules.proofs.Flags.{raised-fits}
use Rattle.rules.proofs.Places.{get_d_set, length-map_from, get_or-map_from, narrow-set, narrow-map_from}
use Rattle.rules.proofs.Touches.{touches}

-- a place with another value: the rest of the record is as it was, and the overflow flags are no place
module _ (x : ℕ) (r : Machine) where
  put_rest : (p : Place) → with_value p x r ≡ with_counters (with_value p x r).counters (with_values (with_value p x r).values r)
  put_rest (Counter m) = refl
  put_rest Instructions = refl
  put_rest Interval = refl
  put_rest Nvmem = refl

  pub put-ovs : (p : Place) → (with_value p x r).values.ovs ≡ r.values.ovs
  put-ovs (Counter m) = refl
  put-ovs Instructions = refl
  put-ovs Interval = refl
  put-ovs Nvmem = refl

  put-length : (p : Place) → length (with_value p x r).counters ≡ length r.counters
  put-length (Counter m) = simp length-set
  put-length Instructions = refl
  put-length Interval = refl
  put-length Nvmem = refl

-- the record has the place
abbrev pub Has : Machine → Place → Type 0
Has r (Counter m) = m < length r.counters
Has r Instructions = Unit {0}
Has r Interval = Unit {0}
Has r Nvmem = Unit {0}

-- what a place holds where some place was given another value
put-value :
    (p q : Place) (x : ℕ) (r : Machine) → Has r q → value_at q (with_value p x r) ≡ cond (same_place p q) x (value_at q r)
put-value (Counter m) (Counter n) x r h = get_d_set r.counters m x n h
put-value (Counter m) Instructions x r h = refl
put-value (Counter m) Interval x r h = refl
put-value (Counter m) Nvmem x r h = refl
put-value Instructions (Counter n) x r h = refl
put-value Instructions Instructions x r h = refl
put-value Instructions Interval x r h = refl
put-value Instructions Nvmem x r h = refl
put-value Interval (Counter n) x r h = refl
put-value Interval Instructions x r h = refl
put-value Interval Interval x r h = refl
put-value Interval Nvmem x r h = refl
put-value Nvmem (Counter n) x r h = refl
put-value Nvmem Instructions x r h = refl
put-value Nvmem Interval x r h = refl
put-value Nvmem Nvmem x r h = refl

-- the record afterwards: counters and values may be new, the rest is as it was
pub rest-stays :
    (d : Decision) (r : Machine)
    → (apply d r).machine ≡ with_counters (apply d r).machine.counters (with_values (apply d r).machine.values r)
unfolding apply
rest-stays (Says a) r = refl
rest-stays (Read p rt) r = refl
rest-stays (Write p x) r = put_rest _ r p
rest-stays (Add mask) r = refl

module _ (d : Decision) (r : Machine) where
  pub level-stays : (apply d r).machine.level ≡ r.level
  level-stays = ap (λ s. s.level) (rest-stays d r)

  pub settings-stay : (apply d r).machine.settings ≡ r.settings
  settings-stay = ap (λ s. s.settings) (rest-stays d r)

  pub events-stay : (apply d r).machine.events ≡ r.events
  events-stay = ap (λ s. s.events) (rest-stays d r)

pub length-stays : (d : Decision) (r : Machine) → length (apply d r).machine.counters ≡ length r.counters
unfolding apply
length-stays (Says a) r = refl
length-stays (Read p rt) r = refl
length-stays (Write p x) r = put-length _ r p
length-stays (Add mask) r = length-map_from _ 0 r.counters

-- what a place holds after an increment
added_at : Bool → List ℕ → ℕ → Place → ℕ → ℕ
added_at p5 e mask (Counter m) y = incremented p5 e mask m y
added_at p5 e mask Instructions y = y
added_at p5 e mask Interval y = y
added_at p5 e mask Nvmem y = y

-- what a place holds after a decision, from what it held before
pub effect : Settings → List ℕ → Decision → Place → ℕ → ℕ
effect s e (Says a) p y = y
effect s e (Read q rt) p y = y
effect s e (Write q x) p y = cond (same_place q p) (taken_by q s x) y
effect s e (Add mask) p y = added_at s.features.p5 e mask p y

pub value_after :
    (d : Decision) (r : Machine) (p : Place) → Has r p
    → value_at p (apply d r).machine ≡ effect r.settings r.events d p (value_at p r)
unfolding apply effect added_at
value_after (Says a) r p h = refl
value_after (Read q rt) r p h = refl
value_after (Write q x) r p h = put-value q p (taken_by q r.settings x) r h
value_after (Add mask) r (Counter n) h = get_or-map_from _ r.counters n h
value_after (Add mask) r Instructions h = refl
value_after (Add mask) r Interval h = refl
value_after (Add mask) r Nvmem h = refl

-- a place that the decision does not touch holds what it held
pub untouched :
    (s : Settings) (e : List ℕ) (d : Decision) (p : Place) (y : ℕ) → touches p d ≡ false → effect s e d p y ≡ y
unfolding effect added_at incremented
untouched s e (Says a) p y n = refl
untouched s e (Read q rt) p y n = refl
untouched s e (Write q x) p y n = rw n
untouched s e (Add mask) (Counter m) y n = rw n
untouched s e (Add mask) Instructions y n = refl
untouched s e (Add mask) Interval y n = refl
untouched s e (Add mask) Nvmem y n = refl

-- a number taken modulo 2^32 is not wide
narrow-mod : (x : ℕ) → leb (2 ^ 32) (x % 2 ^ 32) ≡ false
narrow-mod x = lt-leb (2 ^ 32) (x % 2 ^ 32) (mod-lt x (lit< tt))

narrow-cond : (b : Bool) (x y : ℕ) → leb (2 ^ 32) x ≡ false → leb (2 ^ 32) y ≡ false → leb (2 ^ 32) (cond b x y) ≡ false
narrow-cond true x y p q = p
narrow-cond false x y p q = q

-- an increment of 32 bits leaves a counter narrow
narrow-incremented :
    (p5 : Bool) → p5 ≡ false → (e : List ℕ) (mask m y : ℕ) → leb (2 ^ 32) y ≡ false
    → leb (2 ^ 32) (incremented p5 e mask m y) ≡ false
unfolding incremented
narrow-incremented p5 q e mask m y n = narrow-cond (added e mask m) (plus_one (width p5) y) y (rw q (narrow-mod (y + 1))) n

-- a place that takes a number leaves the counters narrow, where p5 is missing
narrow-put :
    (p : Place) (x : ℕ) (r : Machine) → r.settings.features.p5 ≡ false → any_wide r.counters ≡ false
    → any_wide (with_value p (taken_by p r.settings x) r).counters ≡ false
narrow-put (Counter m) x r p n = narrow-set r.counters m _ (rw p (narrow-mod x)) n
narrow-put Instructions x r p n = n
narrow-put Interval x r p n = n
narrow-put Nvmem x r p n = n

-- where p5 is missing, no counter becomes wide
pub narrow-stays :
    (d : Decision) (r : Machine) → r.settings.features.p5 ≡ false → any_wide r.counters ≡ false
    → any_wide (apply d r).machine.counters ≡ false
unfolding apply
narrow-stays (Says a) r p n = n
narrow-stays (Read q rt) r p n = n
narrow-stays (Write q x) r p n = narrow-put q x r p n
narrow-stays (Add mask) r p n =
    narrow-map_from _ (narrow-incremented r.settings.features.p5 p r.events mask) 0 r.counters n

narrow-unless :
    (p w w' : Bool) → not p && w ≡ false → (p ≡ false → w ≡ false → w' ≡ false) → not p && w' ≡ false
narrow-unless true w w' n s = refl
narrow-unless false w w' n s = s refl n

-- refusal 15's test stays false
pub wide-stays : (d : Decision) (r : Machine) → (view_of r).wide ≡ false → (view_of (apply d r).machine).wide ≡ false
unfolding view_of
wide-stays d r n =
    rw (settings-stay d r)
    (narrow-unless r.settings.features.p5 (any_wide r.counters) (any_wide (apply d r).machine.counters) n
    (narrow-stays d r))

-- the overflow flags stay within their field
pub ovs-stay-within :
    (d : Decision) (r : Machine) → exceeds r.values.ovs 0x37 ≡ false
    → exceeds (apply d r).machine.values.ovs 0x37 ≡ false
unfolding apply
ovs-stay-within (Says a) r e = e
ovs-stay-within (Read p rt) r e = e
ovs-stay-within (Write p x) r e = ap (λ o. exceeds o 0x37) (put-ovs _ r p) ∙ e
ovs-stay-within (Add mask) r e = raised-fits _ r.values.ovs e refl
