-- Noninterference of `access::in_parts`, as specs/Calls.antt states it, by the induction in Calls.antt. All that is known of a
-- call is the contract of `access::in_parts`, as the check takes it from the source: were it weaker, `call-exact` would be
-- refused. DecodedCalls.antt uses the laws on what is said and what stays.
use Prim.Native.Nat.{ℕ}
use mathlib.Core.Logic.{∥∥₁_map}
use mathlib.Core.Path.{refl, sym, ◌∙◌, ap}
use borrow.Fn.World.{World}
use Rattle.answer.specs.declared.Answer.{Answer}
use Rattle.machine.specs.declared.Machine.{Machine}
use Rattle.rules.specs.Step.{step}
use Rattle.undo.specs.declared.Change.{Change}
use Rattle.undo.specs.Undo.{change_by}
use Rattle.access.specs.Calls.{Obeyed, Reference, to, shared, MayGive, CallsRun, CallsNoninterference}
use Rattle.access.specs.InParts.{InParts, Stayed, saying_so}
use Rattle.access.proofs.Calls.{asked, said, stated, any, OfStep, Exact, exact-calls-run, exact-noninterference}
use Rattle.access.proofs.Whole.{whole}
use Rattle.access.specs.contracts.in_parts as in-parts'

module _ (w x : ℕ) (r : Machine) where
  pub only_step :
      (answer : Answer) (after : Machine) → Stayed r after → (k : Change)
      → ∥ InParts (step w x r) (change_by w x r) (saying_so answer after k) after.counters ∥₁
      → ∥ OfStep w x r answer after ∥₁
  only_step answer after stayed k s =
      ∥∥₁_map s (λ l. let o = whole w x r _ _ _ l in (ap (λ o. o.answer) o, stayed ∙ ap (λ o. o.machine) o))

  pub step-in-parts :
      InParts (step w x r) (change_by w x r) (saying_so (step w x r).answer (step w x r).machine (change_by w x r))
      (step w x r).machine.counters
  step-in-parts = record { answer = refl; values = refl; counters = refl; change = refl }

  pub step-stayed : Stayed r (step w x r).machine
  step-stayed = sym (ap (λ o. o.machine) (whole w x r _ _ _ step-in-parts))

-- a call of `access::in_parts` with the parts of a record, its counters and its event numbers by any two references: an answer,
-- values, something kept, and counters behind the reference at its return, of which the contract holds, as the source states it
abbrev pub Call : World → MayGive
Call m w x r answer after =
    (p : Reference)
    × (q : Reference)
    × (k : Change)
    × Stayed r after
    × Obeyed
    m
    in-parts'.ended
    (in-parts'.clauses m.𝓛 m.𝓜.mem m.𝓡.run)
    (p.lifetime, (q.lifetime, tt))
    (to p r.counters, (shared q r.events, (r.settings, (r.level, (r.values, (w, (x, tt)))))))
    (after.counters, (tt, (tt, (tt, (tt, (tt, (tt, tt)))))))
    (saying_so answer after k)

call-exact : (m : World) → Exact (Call m)
call-exact m =
    record {
      only = λ w x r answer after c.
          only_step w x r answer after c.3 c.2
          (said m (InParts (step w x r) (change_by w x r) _ after.counters) (c.4 tt (asked m)));
      may = λ w x r. (
        any,
        any,
        change_by w x r,
        step-stayed w x r,
        λ g s. stated m (InParts (step w x r) (change_by w x r) _ _) (step-in-parts w x r) s,
      );
    }

-- the calls of `access::in_parts` answer and leave what `run` says
pub calls-are-run : (m : World) → CallsRun (Call m)
calls-are-run m = exact-calls-run (Call m) (call-exact m)

-- demand 3 of the calls of `access::in_parts`
pub calls-noninterference : (m : World) → CallsNoninterference (Call m)
calls-noninterference m = exact-noninterference (Call m) (call-exact m)
