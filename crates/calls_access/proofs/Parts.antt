-- The contracts of what an access calls, which speak of a record in parts, said of the record that the words hold.
use Prim.Native.Nat.{ℕ}
use mathlib.Core.List.{List}
use mathlib.Core.Path.{◌≡◌, ◌∙◌, ap, ap₂}
use lib.ListN.{get_or}
use Rattle.machine.specs.declared.Settings.{Settings}
use Rattle.machine.specs.declared.Values.{Values}
use Rattle.machine.specs.Machine.{machine_of}
use Rattle.places.specs.Places.{Shown, Put}
use Rattle.rules.specs.declared.Decision.TheVariants.{Write, Add}
use Rattle.rules.specs.declared.Place.{Place}
use Rattle.rules.specs.Apply.{map_from, incremented, overflows, value_at, with_value, taken_by, shown_by, apply}
use Rattle.rules.specs.Overflow.{raised}
use Rattle.undo.specs.declared.Change.{Change}
use Rattle.undo.specs.Undo.{HeldAt, held, field_of}
use Rattle.words.specs.Words.{word, level_of, settings_of, values_of, events_of, counters_of, record_of}

module _ (b : List ℕ) (s : Settings) (v : Values) (es : s ≡ settings_of (word b)) (ev : v ≡ values_of (word b)) where
  pub shown_of : (p : Place) (y : ℕ) → Shown p s (counters_of b) v y → y ≡ shown_by p (record_of b).settings
      (value_at p (record_of b))
  unfolding record_of
  shown_of p y e =
      e (level_of (word b)) (events_of b)
      ∙ ap₂ (λ (s : Settings) (v : Values). shown_by p s
      (value_at p (machine_of (level_of (word b)) s (events_of b) (counters_of b) v)))
      es ev

  pub kept_of : (p : Place) (k : Change) → HeldAt p (counters_of b) v k → k ≡ held (field_of p) (value_at p (record_of b))
  unfolding record_of
  kept_of p k e =
      e (level_of (word b)) (settings_of (word b)) (events_of b)
      ∙ ap (λ (v : Values). held (field_of p)
      (value_at p (machine_of (level_of (word b)) (settings_of (word b)) (events_of b) (counters_of b) v))) ev

  module _ (p : Place) (x : ℕ) (c : List ℕ) (after : Values) (e : Put p x s (counters_of b) v c after) where
    pub counters-of : c ≡ (apply (Write p x) (record_of b)).machine.counters
    unfolding record_of apply
    counters-of =
        (e (level_of (word b)) (events_of b)).0
        ∙ ap₂ (λ (s : Settings) (v : Values). (with_value p (taken_by p s x)
        (machine_of (level_of (word b)) s (events_of b) (counters_of b) v)).counters) es ev

    pub values-of : after ≡ (apply (Write p x) (record_of b)).machine.values
    unfolding record_of apply
    values-of =
        (e (level_of (word b)) (events_of b)).1
        ∙ ap₂ (λ (s : Settings) (v : Values). (with_value p (taken_by p s x)
        (machine_of (level_of (word b)) s (events_of b) (counters_of b) v)).values) es ev

  module _ (mask : ℕ) (events : List ℕ) (ee : events ≡ events_of b) where
    pub added_of :
        (c : List ℕ) → c ≡ map_from (incremented s.features.p5 events mask) 0 (counters_of b)
        → c ≡ (apply (Add mask) (record_of b)).machine.counters
    unfolding record_of apply
    added_of c e =
        e ∙ ap₂ (λ (s : Settings) (l : List ℕ). map_from (incremented s.features.p5 l mask) 0 (counters_of b)) es ee

    -- the values with these overflow flags
    with-flags : ℕ → Values → Values
    with-flags o v = record { instructions = v.instructions; ovs = o; pmsicr = v.pmsicr; nvmem = v.nvmem }

    pub flags_of :
        (o : ℕ) → o ≡ raised (λ m. overflows s events mask m (get_or (counters_of b) m 0)) v.ovs
        → record { instructions = v.instructions; ovs = o; pmsicr = v.pmsicr; nvmem = v.nvmem }
        ≡ (apply (Add mask) (record_of b)).machine.values
    unfolding record_of apply with-flags
    flags_of o e =
        ap (λ (o : ℕ). with-flags o v) e
        ∙ (λ i. with-flags (raised (λ m. overflows (es i) (ee i) mask m (get_or (counters_of b) m 0)) (ev i).ovs) (ev i))
