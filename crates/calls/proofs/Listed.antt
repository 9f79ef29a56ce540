-- What is kept of a call takes it back, also where it is refused before the record is looked at.
use Prim.Native.Nat.{ℕ}
use mathlib.Core.List.{List}
use mathlib.Core.Path.{◌≡◌, ◌∙◌}
use Rattle.answer.specs.declared.Answer.{Answer}
use Rattle.undo_words.specs.Journal.{entries}
use Rattle.undo_list.specs.Words.{noted}
use Rattle.undo_list.proofs.Noted.{Stays, listed}
use Rattle.machine.specs.declared.Machine.{Machine}
use Rattle.machine.specs.declared.Outcome.{Outcome}
use Rattle.undo.specs.declared.Change.{Change}
use Rattle.undo.specs.Undo.{undo_of, undone}
use Rattle.calls.specs.Listed.{Listed}

-- what is listed of an outcome, where an answer and what was kept are its own
pub listed-call :
    (m : Machine) (o : Outcome) (kept : Change) (list list' : List ℕ)
    → Stays m o
    → undone (undo_of kept m) o.machine ≡ m
    → (a : Answer) → a ≡ o.answer
    → (k : Change) → k ≡ kept
    → entries list' ≡ noted a (undo_of k m) 0 (entries list)
    → Listed o kept m list list'
listed-call m o kept list list' stays back a ea k ek e =
    let own = e ∙ (λ i. noted (ea i) (undo_of (ek i) m) 0 (entries list)) in
    record { history = listed m o stays list list' (undo_of kept m) 0 back own; kept = own }
