-- Laws of the set and level commands: one for each way that the tests can go.
use Prim.Native.Nat.{ℕ, ◌<◌, ◌≤◌, ◌%◌}
use mathlib.Core.Bool.{Bool, true, false, not, ◌&&◌, ◌||◌}
use mathlib.Core.List.{List}
use mathlib.Core.Path.{◌≡◌, refl, sym}
use native.Mathlib.Nat.{mod-eq_of_lt}
use native.Mathlib.Omega.{arith}
use borrow.Author.Tests.{lt-ltb, le-ltb, ltb-true, ltb-false, le-leb, leb-true, eqb-true}
use lib.Dec.{leb, ltb, eqb}
use Rattle.std.specs.Prelude.{Some, None}
use Rattle.std.proofs.lemmas.Bool.{agree_below_at}
use Rattle.bits.specs.Bits.{bit}
use Rattle.machine.proofs.Bools.{or_right}
use Rattle.answer.specs.declared.Refusal.TheVariants.{UnknownField, ValueTooLarge, LevelTooLarge}
use Rattle.machine.specs.declared.Machine.{Machine}
use Rattle.fields.specs.Largest.{largest, largest_of_field, is_field, exceeds, largest_level}
use Rattle.machine.specs.Machine.{with_level, with_pmsicr}
use Rattle.store.specs.Store.{store, store_settings, store_list, store_values}
use Rattle.fields.specs.Set.{pmsicr_after, set, set_level}
use Rattle.machine.specs.Outcome.{refused, done}

-- a number with a largest value is that of a field, and no field has 0 as its largest
pub known : (f n : ℕ) → Some n ≡ largest_of_field f → (largest f ≡ 0 → ⊥) × (n ≡ largest f)
known f n e = go (ltb 0 (largest f)) refl
  where
    go : (b : Bool) → is_field f ≡ b → (largest f ≡ 0 → ⊥) × (n ≡ largest f)
    go true t = let q : Some n ≡ Some (largest f) = rw t at e in (λ z. omega (arith, ltb-true 0 (largest f) t), cc)
    go false t = let q : Some n ≡ None = rw t at e in cc

-- among the fields of the event numbers the largest value is 0xFFFF
event_largest : ℕ → Bool
event_largest f = not (leb 0x40 f) || eqb (largest f) 0xFFFF

event-test : (f : ℕ) → f < 0x5F → event_largest f ≡ true
unfolding event_largest largest
event-test f = agree_below_at event_largest (λ _. true) 0x5F f refl

pub event-largest : (f : ℕ) → 0x40 ≤ f → f ≤ 0x5E → largest f ≡ 0xFFFF
unfolding event_largest
event-largest f low high = eqb-true _ _ (rw (le-leb 0x40 f low) at (event-test f (omega arith)))

-- a value that does not exceed its field's largest is at most that
pub within-largest : (f v : ℕ) → exceeds v f ≡ false → v ≤ largest f
within-largest f v h = ltb-false (largest f) v (or_right (eqb f 0x37 && bit 31 v) (ltb (largest f) v) h)

-- an event number is at most 0xFFFF, so its low 16 bits are all of it
event-fits : (f v : ℕ) → v ≤ largest f → (l : List ℕ) → store_list 0x40 f (v % 65536) l ≡ store_list 0x40 f v l
event-fits f v h l = go (leb 0x40 f) refl (leb f 0x5E) refl
  where
    go : (a : Bool) → leb 0x40 f ≡ a → (b : Bool) → leb f 0x5E ≡ b → store_list 0x40 f (v % 65536) l ≡ store_list 0x40 f v l
    go false e b e' = rw e
    go true e false e' = rw (e, e')
    go true e true e' =
        let k : largest f ≡ 0xFFFF = event-largest f (leb-true _ _ e) (leb-true _ _ e') in
        rw (mod-eq_of_lt {n = v} {m = 65536} (omega arith))

module _ (f v : ℕ) (m : Machine) where
  pub set-unknown : None ≡ largest_of_field f → set f v m ≡ refused UnknownField m
  unfolding set
  set-unknown e = go (is_field f) refl
    where
      go : (b : Bool) → is_field f ≡ b → set f v m ≡ refused UnknownField m
      go true t = let q : None ≡ Some (largest f) = rw t at e in cc
      go false t = rw t

  pub set-large : (largest f ≡ 0 → ⊥) → exceeds v f ≡ true → set f v m ≡ refused ValueTooLarge m
  unfolding set
  set-large n h = rw (lt-ltb 0 (largest f) (omega arith), h)

  pub set-stored :
      (largest f ≡ 0 → ⊥) → exceeds v f ≡ false → set f v m ≡ done (with_pmsicr (pmsicr_after f v m) (store f v m))
  unfolding set
  set-stored n h = rw (lt-ltb 0 (largest f) (omega arith), h)

  -- the record that the code makes, where the event number has passed through 16 bits
  pub set-stores : (largest f ≡ 0 → ⊥) → exceeds v f ≡ false
      → done
      (with_pmsicr (pmsicr_after f v m)
      (record {
        level = m.level;
        settings = store_settings f v m.settings;
        events = store_list 0x40 f (v % 65536) m.events;
        counters = store_list 0x60 f v m.counters;
        values = store_values f v m.values;
      }))
      ≡ set f v m
  unfolding store
  set-stores n h = rw (event-fits f v (within-largest f v h) m.events) (sym (set-stored n h))

module _ (l : ℕ) (m : Machine) where
  pub level-large : largest_level < l → refused LevelTooLarge m ≡ set_level l m
  unfolding set_level
  level-large h = sym (rw (lt-ltb largest_level l h))

  pub level-put : l ≤ largest_level → done (with_level l m) ≡ set_level l m
  unfolding set_level
  level-put h = sym (rw (le-ltb largest_level l h))
