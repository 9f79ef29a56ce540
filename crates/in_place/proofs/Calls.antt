-- Noninterference of `in_place::step`, as specs/Calls.antt of `access` states it, by the induction there. All that is known of a
-- call is the contract of `in_place::step`, as the check takes it from the source: were it weaker, `call-exact` would be refused.
use mathlib.Core.Path.{refl}
use borrow.Fn.World.{World}
use Rattle.access.specs.Calls.{Obeyed, Reference, to, MayGive, CallsRun, CallsNoninterference}
use Rattle.access.proofs.Calls.{asked, said, stated, any, OfStep, Exact, exact-calls-run, exact-noninterference}
use Rattle.in_place.specs.contracts.step as step'

-- a call of `in_place::step`, with any reference: an answer, and a record behind the reference at its return, of which the
-- contract holds, as the source states it
abbrev pub Call : World → MayGive
Call m w x r answer after =
    (p : Reference)
    × Obeyed
    m
    step'.ended
    (step'.clauses m.𝓛 m.𝓜.mem m.𝓡.run)
    (p.lifetime, tt)
    (to p r, (w, (x, tt)))
    (after, (tt, (tt, tt)))
    answer

call-exact : (m : World) → Exact (Call m)
call-exact m =
    record {
      only = λ w x r answer after c. said m (OfStep w x r answer after) (c.1 tt (asked m));
      may = λ w x r. (any, λ g s. stated m (OfStep w x r _ _) (refl, refl) s);
    }

-- the calls of `in_place::step` answer and leave what `run` says
pub calls-are-run : (m : World) → CallsRun (Call m)
calls-are-run m = exact-calls-run (Call m) (call-exact m)

-- demand 3 of the calls of `in_place::step`
pub calls-noninterference : (m : World) → CallsNoninterference (Call m)
calls-noninterference m = exact-noninterference (Call m) (call-exact m)
