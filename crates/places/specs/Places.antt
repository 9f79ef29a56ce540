-- A place of a record of which the parts are at hand, whatever the rest of it: what is shown of it, and what is stored to it.
use Rattle.std.specs.Prelude.{ℕ, List, ◌≡◌}
use Rattle.machine.specs.declared.Settings.{Settings}
use Rattle.machine.specs.declared.Values.{Values}
use Rattle.machine.specs.Machine.{machine_of}
use Rattle.rules.specs.declared.Place.{Place}
use Rattle.rules.specs.Apply.{value_at, with_value, taken_by, shown_by}

-- MODEL X4: what MRS answers of a place, where the record has these settings, counters and values, whatever the rest of it
abbrev pub Shown : Place → Settings → List ℕ → Values → ℕ → Type 0
Shown p s c v y = (l : ℕ) (e : List ℕ) → y ≡ shown_by p s (value_at p (machine_of l s e c v))

-- MODEL X4: such a record after x is written to a place, with the counters c' and the values v'
abbrev pub Put : Place → ℕ → Settings → List ℕ → Values → List ℕ → Values → Type 0
Put p x s c v c' v' =
    (l : ℕ) (e : List ℕ)
    → (c' ≡ (with_value p (taken_by p s x) (machine_of l s e c v)).counters)
    × (v' ≡ (with_value p (taken_by p s x) (machine_of l s e c v)).values)
