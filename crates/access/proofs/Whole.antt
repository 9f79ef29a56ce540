-- The parts of an access with the counters lent, put together again: the outcome of the step on the whole record.
use Prim.Native.Nat.{ℕ}
use mathlib.Core.List.{List}
use mathlib.Core.Path.{◌≡◌, sym, ◌∙◌, ap}
use Rattle.machine.specs.declared.Machine.{Machine}
use Rattle.machine.specs.Machine.{machine_of}
use Rattle.machine.specs.Outcome.{says}
use Rattle.state.specs.State.{view_of}
use Rattle.rules.specs.Step.{decide, step}
use Rattle.rules.proofs.Applied.{rest-stays}
use Rattle.undo.specs.declared.Change.{Change}
use Rattle.access.specs.declared.Said.{Said}
use Rattle.access.specs.InParts.{InParts}

pub whole :
    (w x : ℕ) (r : Machine) (k : Change) (said : Said) (after : List ℕ) → InParts (step w x r) k said after
    → says said.answer (machine_of r.level r.settings r.events after said.values) ≡ step w x r
unfolding step
whole w x r k said after l =
    (λ i. says (l.answer i) (machine_of r.level r.settings r.events (l.counters i) (l.values i)))
    ∙ ap (says (step w x r).answer) (sym (rest-stays (decide (view_of r) w x) r))
