-- An outcome where the caller keeps the record: what requests from outside, ticks and members can change is handed back.
use Rattle.std.specs.Prelude.{◌≡◌, ℕ, List}
use Rattle.machine.specs.declared.Outcome.{Outcome}
use Rattle.machine.specs.declared.Settings.{Settings}
use Rattle.machine.specs.declared.Values.{Values}
use Rattle.machine.specs.Machine.{machine_of}
use Rattle.rules.specs.declared.external.Effect.{Effect}
use Rattle.rules.specs.declared.external.Request.{Request}
use Rattle.rules.specs.External.{judge, enact}
use Rattle.state.specs.State.{view_at}
use Rattle.external_apply.specs.declared.Told.{Told}

-- MODEL X14: the answer, the counter enables and the values beside the event counters are those of the outcome; the rest of the
-- record stays with the caller
pub record InParts (o : Outcome) (told : Told) : Type 0 where
  pub answer : told.answer ≡ o.answer
  pub cnten : told.cnten ≡ o.machine.settings.cnten
  pub values : told.values ≡ o.machine.values

-- MODEL X14: an effect on the record with these settings and values, whatever the rest of it
abbrev pub Enacted : Effect → Settings → Values → Told → Type 0
Enacted e s v told = (l : ℕ) (events counters : List ℕ) → InParts (enact e (machine_of l s events counters v)) told

-- MODEL X14: a request to the record with these parts, whatever its event numbers
abbrev pub Responded : Request → ℕ → Settings → List ℕ → Values → Told → Type 0
Responded q l s counters v told =
    (events : List ℕ) → InParts (enact (judge (view_at l s counters v.ovs) q) (machine_of l s events counters v)) told
