-- What accesses can do with the overflow flags: three claims about whole lists of accesses, from whatever level, and about the
-- very step of specs/Step.antt. They are proved in proofs/OverflowClaims.antt; nothing here depends on that.
use Rattle.std.specs.Prelude.{ℕ, ◌≤◌, Bool, true, false, ◌||◌, List, [], ◌∷◌, ◌≡◌}
use Rattle.bits.specs.Bits.{bit}
use Rattle.machine.specs.declared.Machine.{Machine}
use Rattle.machine.specs.Machine.{with_level, with_ovs}
use Rattle.state.specs.State.{view_of}
use Rattle.rules.specs.declared.Decision.{Decision}
use Rattle.rules.specs.declared.Decision.TheVariants.{Says, Read, Write, Add}
use Rattle.rules.specs.Apply.{added}
use Rattle.rules.specs.Step.{Access, Run, decide, access, run}
use Rattle.rules.specs.Isolation.{Start}

-- MODEL M11: two runs, from records with the overflow flags o₁ and o₂, answer alike, leave records that agree on the level and on
-- every field but the overflow flags, and leave equal each flag that was equal
pub record AlikeButOvs (o₁ o₂ : ℕ) (a b : Run) : Type 0 where
  pub answers : a.answers ≡ b.answers
  pub same : with_ovs 0 a.machine ≡ with_ovs 0 b.machine
  pub flags : (m : ℕ) → bit m o₁ ≡ bit m o₂ → bit m a.machine.values.ovs ≡ bit m b.machine.values.ovs

-- MODEL M11: no access reads a flag: two start records that differ in the overflow flags alone answer every list alike, and no
-- flag tells of another
abbrev pub NoneRead : Type 0
NoneRead =
    (r₁ r₂ : Machine) (accesses : List Access)
    → Start r₁
    → Start r₂
    → with_ovs 0 r₁ ≡ with_ovs 0 r₂
    → AlikeButOvs r₁.values.ovs r₂.values.ovs (run accesses r₁) (run accesses r₂)

-- MODEL M12: no access clears a flag: one that is 1 before a list is 1 after it
abbrev pub NoneCleared : Type 0
NoneCleared =
    (r : Machine) (accesses : List Access) (m : ℕ)
    → m ≤ 32
    → bit m r.values.ovs ≡ true
    → bit m (run accesses r).machine.values.ovs ≡ true

-- MODEL M13: what was decided adds 1 to event counter m, with these event numbers
abbrev pub adds_to : Decision → List ℕ → ℕ → Bool
adds_to (Says a) events m = false
adds_to (Read place rt) events m = false
adds_to (Write place x) events m = false
adds_to (Add mask) events m = added events mask m

-- MODEL M13: the access adds 1 to event counter m
abbrev pub incremented_by : Access → Machine → ℕ → Bool
incremented_by a r m = adds_to (decide (view_of (with_level a.level r)) a.word a.operand) r.events m

-- MODEL M13: some access of the list does, on the record that the ones before it left
abbrev pub incremented_in : List Access → Machine → ℕ → Bool
incremented_in [] r m = false
incremented_in (a ∷ rest) r m = incremented_by a r m || incremented_in rest (access a r).machine m

-- MODEL M13: a flag that is 0 before a list and 1 after it is that of an event counter, and the counter was incremented in it
abbrev pub NewFlagsByIncrements : Type 0
NewFlagsByIncrements =
    (r : Machine) (accesses : List Access) (m : ℕ)
    → bit m r.values.ovs ≡ false
    → bit m (run accesses r).machine.values.ovs ≡ true
    → (m ≤ 30) × (incremented_in accesses r m ≡ true)

-- MODEL M11, M12 and M13: the three together
pub record OverflowClaims : Type 0 where
  pub unread : NoneRead
  pub uncleared : NoneCleared
  pub increments : NewFlagsByIncrements
