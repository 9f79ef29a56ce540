-- An outcome where the counters are lent: the counters are changed where they stand, and the rest is handed back.
use Rattle.std.specs.Prelude.{ℕ, List, ◌≡◌}
use Rattle.answer.specs.declared.Answer.{Answer}
use Rattle.machine.specs.declared.Machine.{Machine}
use Rattle.machine.specs.declared.Outcome.{Outcome}
use Rattle.machine.specs.declared.Settings.{Settings}
use Rattle.machine.specs.declared.Values.{Values}
use Rattle.machine.specs.Machine.{machine_of, with_counters, with_values}
use Rattle.rules.specs.declared.Decision.{Decision}
use Rattle.rules.specs.Apply.{apply}
use Rattle.undo.specs.declared.Change.{Change}
use Rattle.undo.specs.Undo.{change_of}
use Rattle.access.specs.declared.Said.{Said}

-- MODEL X4 and H8: what is said and what the counters then hold is the outcome, and what is kept of the access goes with it;
-- level, settings and event numbers stay with the caller
pub record InParts (o : Outcome) (kept : Change) (said : Said) (after : List ℕ) : Type 0 where
  pub answer : said.answer ≡ o.answer
  pub values : said.values ≡ o.machine.values
  pub counters : after ≡ o.machine.counters
  pub change : said.change ≡ kept

-- MODEL X4: a decision applied to the record with these settings, event numbers, counters and values, whatever its level
abbrev pub Applied : Decision → Settings → List ℕ → List ℕ → Values → Said → List ℕ → Type 0
Applied d s e c v said after = (l : ℕ) → InParts (apply d (machine_of l s e c v)) (change_of d (machine_of l s e c v)) said after

-- MODEL X4: the record after a call has the counters that it left, and its values; the rest of it stayed with the caller
abbrev pub Stayed : Machine → Machine → Type 0
Stayed r after = after ≡ with_counters after.counters (with_values after.values r)

-- MODEL X4: what is said where this is the answer, this the record after the call, and this kept of the access
abbrev pub saying_so : Answer → Machine → Change → Said
saying_so answer after kept = record { answer = answer; values = after.values; change = kept }
