-- A record that meets a state refusal comes back unchanged with its number, from an access, an external access, a tick and a
-- member of the sample population.
use Prim.Native.Nat.{ℕ}
use mathlib.Core.Bool.{Bool}
use mathlib.Core.Path.{◌≡◌}
use Rattle.answer.specs.declared.Refusal.{Refusal}
use Rattle.machine.specs.declared.Machine.{Machine}
use Rattle.std.specs.Prelude.{Err}
use Rattle.machine.specs.Outcome.{refused}
use Rattle.state.specs.State.{view_of, verdict_of}
use Rattle.rules.specs.External.{external_read, external_write, tick, member}
use Rattle.rules.specs.Apply.{apply}
use Rattle.rules.specs.Step.{decide, step}

module _ (n : Refusal) (r : Machine) (e : verdict_of (view_of r) ≡ Err n) where
  pub step-refused : (w x : ℕ) → step w x r ≡ refused n r
  unfolding decide apply step
  step-refused w x = rw e

  pub read-refused : (offset : ℕ) → external_read offset r ≡ refused n r
  unfolding external_read
  read-refused offset = rw e

  pub write-refused : (offset x : ℕ) → external_write offset x r ≡ refused n r
  unfolding external_write
  write-refused offset x = rw e

  pub tick-refused : (prohibited : Bool) → tick prohibited r ≡ refused n r
  unfolding tick
  tick-refused prohibited = rw e

  pub member-refused : (draw : ℕ) → member draw r ≡ refused n r
  unfolding member
  member-refused draw = rw e
