-- Two machines under one list: the claim of demand 3, about whole lists of accesses and about the very step of
-- specs/Step.antt. Its proof is proofs/Isolation.antt; nothing here depends on it.
use Rattle.std.specs.Prelude.{ℕ, Bool, true, false, not, ◌&&◌, ◌||◌, List, [], ◌∷◌, ◌≡◌, leb, eqb, length, Ok}
use Rattle.machine.specs.declared.Machine.{Machine}
use Rattle.machine.specs.declared.Settings.{Settings}
use Rattle.machine.specs.Machine.{with_level}
use Rattle.state.specs.State.{view_of, verdict_of}
use Rattle.bits.specs.Bits.{bit}
use Rattle.rules.specs.declared.Place.{Place}
use Rattle.rules.specs.declared.Place.TheVariants.{Counter, Instructions, Interval, Nvmem}
use Rattle.rules.specs.Apply.{value_at}
use Rattle.rules.specs.Step.{Access, run}

-- MODEL M4: what is named: the places of the record that a claim is about
abbrev pub Named : Type 0
Named = Place → Bool

-- MODEL F15: a place that the record has; event counters are 0 to 30
abbrev pub is_place : Place → Bool
is_place (Counter m) = leb m 30
is_place Instructions = true
is_place Interval = true
is_place Nvmem = true

-- MODEL M4: which kind of place it is
abbrev pub kind_of : Place → ℕ
kind_of (Counter m) = 0
kind_of Instructions = 1
kind_of Interval = 2
kind_of Nvmem = 3

-- MODEL M4: which one of its kind; of event counters alone there are several
abbrev pub index_of : Place → ℕ
index_of (Counter m) = m
index_of Instructions = 0
index_of Interval = 0
index_of Nvmem = 0

-- MODEL M4: two places are one
abbrev pub same_place : Place → Place → Bool
same_place p q = eqb (kind_of p) (kind_of q) && eqb (index_of p) (index_of q)

-- MODEL M4: two records agree on the level and on every field but the places named
pub record SameExcept (x : Named) (r₁ r₂ : Machine) : Type 0 where
  pub level : r₁.level ≡ r₂.level
  pub settings : r₁.settings ≡ r₂.settings
  pub events : r₁.events ≡ r₂.events
  pub ovs : r₁.values.ovs ≡ r₂.values.ovs
  pub places : (p : Place) → is_place p ≡ true → x p ≡ false → value_at p r₁ ≡ value_at p r₂

-- MODEL M6: each place named holds what it held at the start
abbrev pub Kept : Named → Machine → Machine → Type 0
Kept x start after = (p : Place) → is_place p ≡ true → x p ≡ true → value_at p after ≡ value_at p start

-- MODEL M3: a start record, consistent with its level put to 0. A record of the code has 31 event counters by its type
pub record Start (r : Machine) : Type 0 where
  pub sized : length r.counters ≡ 31
  pub consistent : verdict_of (view_of (with_level 0 r)) ≡ Ok tt

-- MODEL M3: a record that is consistent at its own level: `consistent-start` of proofs/Isolation.antt shows that it meets
-- `Start`
pub record ConsistentMachine (r : Machine) : Type 0 where
  pub sized : length r.counters ≡ 31
  pub consistent : verdict_of (view_of r) ≡ Ok tt

-- MODEL M7 to M9 and M14: every access of the list is from level top or below
abbrev pub from_levels : ℕ → List Access → Bool
from_levels top [] = true
from_levels top (a ∷ rest) = leb a.level top && from_levels top rest

-- MODEL M5 and M6: every answer is the same, and the records afterwards agree and have kept what is named
pub record Isolated (x : Named) (accesses : List Access) (r₁ r₂ : Machine) : Type 0 where
  pub answers : (run accesses r₁).answers ≡ (run accesses r₂).answers
  pub same : SameExcept x (run accesses r₁).machine (run accesses r₂).machine
  pub kept₁ : Kept x r₁ (run accesses r₁).machine
  pub kept₂ : Kept x r₂ (run accesses r₂).machine

-- MODEL M1 to M6: the claim for a condition on start records, accesses from level top or below, places named by the
-- settings, and a condition on the settings: two machines that differ only in the places named answer every list alike, and
-- each keeps what it holds there
abbrev pub Claim : (Machine → Type 0) → ℕ → (Settings → Named) → (Settings → Bool) → Type 0
Claim start top named when =
    (r₁ r₂ : Machine) (accesses : List Access)
    → start r₁
    → start r₂
    → when r₁.settings ≡ true
    → from_levels top accesses ≡ true
    → SameExcept (named r₁.settings) r₁ r₂
    → Isolated (named r₁.settings) accesses r₁ r₂

-- MODEL M7 and M8: the event counters that f tells, and no other place
abbrev pub event_counters : (ℕ → Bool) → Named
event_counters f (Counter m) = f m
event_counters f Instructions = false
event_counters f Interval = false
event_counters f Nvmem = false

-- What each claim names, all in one place.

-- MODEL M7: the event counters from HPMN on
abbrev pub from_hpmn : Settings → Named
from_hpmn s = event_counters (λ m. leb s.mdcr2.hpmn m)

-- MODEL M8: the event counters whose P bit is 0
abbrev pub without_p : Settings → Named
without_p s = event_counters (λ m. not (bit m s.pmuacr.p))

-- MODEL M9: the instruction counter
abbrev pub instruction_counter : Settings → Named
instruction_counter s p = same_place Instructions p

-- MODEL M14: PMSICR and the word at 0x838
abbrev pub sampling_counter : Settings → Named
sampling_counter s p = same_place Interval p || same_place Nvmem p

-- MODEL M7: the settings with which HPMN hides its counters
abbrev pub hpmn_hides : Settings → Bool
hpmn_hides s = s.execution.el2enabled

-- MODEL M8: the settings with which PMUACR hides its counters
abbrev pub pmuacr_hides : Settings → Bool
pmuacr_hides s = s.features.p9 && s.pmuserenr.uen && not s.pmuserenr.sw

-- MODEL M9: the settings with which F0 hides the instruction counter
abbrev pub f0_hides : Settings → Bool
f0_hides s = not s.pmuacr.f0

-- MODEL M14: whatever the settings
abbrev pub always : Settings → Bool
always s = true

-- MODEL M7, M8, M9 and M14: demand 3, whole: a noninterference claim, for accesses from EL0 and EL1, and three from EL0.
-- `Noninterference Start` is what is demanded, and `Noninterference ConsistentMachine` says it of two consistent machines
pub record Noninterference (start : Machine → Type 0) : Type 0 where
  pub hpmn : Claim start 1 from_hpmn hpmn_hides
  pub pmuacr : Claim start 0 without_p pmuacr_hides
  pub f0 : Claim start 0 instruction_counter f0_hides
  pub sampling : Claim start 0 sampling_counter always
