-- What a decision does to the record. It says all that is to happen: nothing here looks at who asked.
use Rattle.std.specs.Prelude.{ℕ, suc, ◌%◌, ◌^◌, Bool, cond, ◌&&◌, List, [], ◌∷◌, eqb, ltb, get_or, set}
use Rattle.answer.specs.declared.Answer.{Answer}
use Rattle.bits.specs.Bits.{bit}
use Rattle.machine.specs.declared.Machine.{Machine}
use Rattle.machine.specs.declared.Outcome.{Outcome}
use Rattle.machine.specs.declared.Settings.{Settings}
use Rattle.machine.specs.Machine.{with_counters, with_instructions, with_ovs, with_pmsicr, with_nvmem}
use Rattle.machine.specs.Outcome.{says, done}
use Rattle.pmsicr.specs.Pmsicr.{implemented}
use Rattle.rules.specs.declared.Decision.{Decision}
use Rattle.rules.specs.declared.Decision.TheVariants.{Says, Read, Write, Add}
use Rattle.rules.specs.declared.Place.{Place}
use Rattle.rules.specs.declared.Place.TheVariants.{Counter, Instructions, Interval, Nvmem}
use Rattle.rules.specs.Overflow.{width, plus_one, carries, overflow_width, raised}

-- MODEL G8: f at each place of a list, from place i on
abbrev pub map_from : (ℕ → ℕ → ℕ) → ℕ → List ℕ → List ℕ
map_from f i [] = []
map_from f i (y ∷ ys) = f i y ∷ map_from f (suc i) ys

-- MODEL G8: counter m really takes an increment where its bit of the mask is 1 and its event number is 0, the software
-- increment
abbrev pub added : List ℕ → ℕ → ℕ → Bool
added events mask m = bit m mask && eqb (get_or events m 0) 0

-- MODEL G8 and G10: what counter m then holds
unfoldable pub incremented : Bool → List ℕ → ℕ → ℕ → ℕ → ℕ
incremented p5 events mask m y = cond (added events mask m) (plus_one (width p5) y) y

-- MODEL G11: event counter m, from 0 to 30, holds y, takes an increment and overflows
abbrev pub overflows : Settings → List ℕ → ℕ → ℕ → ℕ → Bool
overflows s events mask m y = ltb m 31 && added events mask m && carries (overflow_width s m) y

-- MODEL G8 and G10: the event counters after an increment by a mask
abbrev pub counters_after : ℕ → Machine → List ℕ
counters_after mask r = map_from (incremented r.settings.features.p5 r.events mask) 0 r.counters

-- MODEL G11 and G13: the overflow flags after it, from what the counters held before
abbrev pub ovs_after : ℕ → Machine → ℕ
ovs_after mask r = raised (λ m. overflows r.settings r.events mask m (get_or r.counters m 0)) r.values.ovs

-- MODEL G2 and G15: what a place holds
abbrev pub value_at : Place → Machine → ℕ
value_at (Counter m) r = get_or r.counters m 0
value_at Instructions r = r.values.instructions
value_at Interval r = r.values.pmsicr
value_at Nvmem r = r.values.nvmem

-- MODEL G2 and G15: the record in which a place holds x
abbrev pub with_value : Place → ℕ → Machine → Machine
with_value (Counter m) x r = with_counters (set r.counters m x) r
with_value Instructions x r = with_instructions x r
with_value Interval x r = with_pmsicr x r
with_value Nvmem x r = with_nvmem x r

-- MODEL G1, G2 and G16: what a place takes of a number that is written to it: an event counter the bits of its width, PMSICR its
-- implemented bits
abbrev pub taken_by : Place → Settings → ℕ → ℕ
taken_by (Counter m) s x = x % 2 ^ width s.features.p5
taken_by Instructions s x = x
taken_by Interval s x = implemented s.features.ernd x
taken_by Nvmem s x = x

-- MODEL G2 and G16: what MRS answers of what a place holds: of PMSICR its implemented bits
abbrev pub shown_by : Place → Settings → ℕ → ℕ
shown_by (Counter m) s y = y
shown_by Instructions s y = y
shown_by Interval s y = implemented s.features.ernd y
shown_by Nvmem s y = y

-- MODEL A3: what a decision answers, and the record afterwards
unfoldable pub apply : Decision → Machine → Outcome
apply (Says a) r = says a r
apply (Read place rt) r = says (Answer.Mrs (shown_by place r.settings (value_at place r)) rt) r
apply (Write place x) r = done (with_value place (taken_by place r.settings x) r)
apply (Add mask) r = done (with_ovs (ovs_after mask r) (with_counters (counters_after mask r) r))
