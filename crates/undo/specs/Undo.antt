-- What takes a command back: what is kept of a decision, and the record with it put back.
use Rattle.std.specs.Prelude.{ℕ, ◌+◌, ◌^◌, ◌<◌, Bool, cond, List, ◌≡◌, eqb, ltb, get_or}
use Rattle.counters.specs.Decremented.{decremented}
use Rattle.machine.specs.declared.Machine.{Machine}
use Rattle.machine.specs.declared.Settings.{Settings}
use Rattle.machine.specs.declared.Values.{Values}
use Rattle.machine.specs.Machine.{machine_of}
use Rattle.rules.specs.declared.Decision.{Decision}
use Rattle.rules.specs.declared.Decision.TheVariants.{Says, Read, Write, Add}
use Rattle.rules.specs.declared.Instruction.{Instruction}
use Rattle.rules.specs.declared.Place.{Place}
use Rattle.rules.specs.declared.Place.TheVariants.{Counter, Instructions, Interval, Nvmem}
use Rattle.rules.specs.Apply.{map_from, value_at}
use Rattle.rules.specs.Step.{decide, decide_decoded}
use Rattle.state.specs.State.{view_of}
use Rattle.store.specs.Store.{number, store_list, store_settings}
use Rattle.undo.specs.declared.Change.{Change}
use Rattle.undo.specs.declared.Undo.{Undo}

-- MODEL H8: the number that stands for no field
abbrev pub nothing : ℕ
nothing = 0xFF

-- MODEL H8: the number that stands for the event counters that took an increment
abbrev pub increments : ℕ
increments = 0xFE

-- MODEL H8: a field and what it held
abbrev pub held : ℕ → ℕ → Change
held f x = record { field = f; old = x }

-- MODEL H8: no field was changed
abbrev pub unchanged : Change
unchanged = held nothing 0

-- MODEL H8: the field that is a place
abbrev pub field_of : Place → ℕ
field_of (Counter m) = cond (ltb m 31) (0x60 + m) nothing
field_of Instructions = 0x7F
field_of Interval = 0x8C
field_of Nvmem = 0x8D

-- MODEL H8: what is kept of a decision: of a write the place and what it held, of an increment the mask
abbrev pub change_of : Decision → Machine → Change
change_of (Says a) r = unchanged
change_of (Read p rt) r = unchanged
change_of (Write p x) r = held (field_of p) (value_at p r)
change_of (Add mask) r = held increments mask

-- MODEL H8 and X4: what a place holds in a record with these counters and values, whatever the rest of it
abbrev pub ValueAt : Place → List ℕ → Values → ℕ → Type 0
ValueAt p c v y = (l : ℕ) (s : Settings) (e : List ℕ) → y ≡ value_at p (machine_of l s e c v)

-- MODEL H8 and X4: what is kept of a write to a place of such a record
abbrev pub HeldAt : Place → List ℕ → Values → Change → Type 0
HeldAt p c v k = (l : ℕ) (s : Settings) (e : List ℕ) → k ≡ held (field_of p) (value_at p (machine_of l s e c v))

-- MODEL H8: what is kept of the access with word w and operand x
abbrev pub change_by : ℕ → ℕ → Machine → Change
change_by w x r = change_of (decide (view_of r) w x) r

-- MODEL H8 and X4: what is kept of the access with an instruction, a word taken apart
abbrev pub change_decoded : Instruction → ℕ → Machine → Change
change_decoded i x r = change_of (decide_decoded (view_of r) i x) r

-- MODEL H8: what is kept of a command, before which the record was r
abbrev pub undo_of : Change → Machine → Undo
undo_of c r = record { change = c; level = r.level; ovs = r.values.ovs }

-- MODEL H8: the settings with the counter enables, field 34, put back, where they were kept
abbrev pub settings_before : Change → Settings → Settings
settings_before c s = cond (eqb c.field 0x34) (store_settings 0x34 c.old s) s

-- MODEL H8: the event counters with what was kept of them put back: the one counter that was written, or 1 less in those that
-- took an increment
abbrev pub counters_before : Change → Bool → List ℕ → List ℕ → List ℕ
counters_before c p5 events counters =
    cond (eqb c.field increments) (map_from (decremented p5 events c.old) 0 counters)
    (store_list 0x60 c.field c.old counters)

-- MODEL H8: the other values with the one that was kept put back, and these overflow flags
abbrev pub values_before : Change → ℕ → Values → Values
values_before c ovs v =
    record {
      instructions = number 0x7F c.field c.old v.instructions;
      ovs = ovs;
      pmsicr = number 0x8C c.field c.old v.pmsicr;
      nvmem = number 0x8D c.field c.old v.nvmem;
    }

-- MODEL H8: the record with what was kept of a command put back
unfoldable pub undone : Undo → Machine → Machine
undone u r =
    let c = u.change in
    machine_of
    u.level
    (settings_before c r.settings)
    r.events
    (counters_before c r.settings.features.p5 r.events r.counters)
    (values_before c u.ovs r.values)

-- MODEL F15: counters of 64 bits each, which is what their type says
abbrev pub Typed : List ℕ → Type 0
Typed counters = (m : ℕ) → get_or counters m 0 < 2 ^ 64
