-- Noninterference of `access::in_parts_decoded`, which a session runs, as specs/Calls.antt states it, by the induction in
-- Calls.antt. All that is known of a call is its contract, as the check takes it from the source. The instruction that is
-- passed is the word taken apart, which is what the contract of `word::decode` gives.
use mathlib.Core.Logic.{∥∥₁_map}
use mathlib.Core.Path.{refl}
use borrow.Fn.World.{World}
use Rattle.rules.specs.Word.{decode}
use Rattle.rules.specs.Step.{step_decoded}
use Rattle.undo.specs.declared.Change.{Change}
use Rattle.undo.specs.Undo.{change_by, change_decoded}
use Rattle.access.specs.Calls.{Obeyed, Reference, to, shared, MayGive, CallsRun, CallsNoninterference}
use Rattle.access.specs.InParts.{InParts, Stayed, saying_so}
use Rattle.access.proofs.Calls.{asked, said, stated, any, Exact, exact-calls-run, exact-noninterference}
use Rattle.access.proofs.PartsCalls.{only_step, step-in-parts, step-stayed}
use Rattle.access.proofs.Decoded.{parts-by-word, parts-decoded}
use Rattle.access.specs.contracts.in_parts_decoded as decoded'

-- a call of `access::in_parts_decoded` with the instruction that the word is, else as `Call` of PartsCalls.antt
abbrev pub Call : World → MayGive
Call m w x r answer after =
    (p : Reference)
    × (q : Reference)
    × (k : Change)
    × Stayed r after
    × Obeyed
    m
    decoded'.ended
    (decoded'.clauses m.𝓛 m.𝓜.mem m.𝓡.run)
    (p.lifetime, (q.lifetime, tt))
    (to p r.counters, (shared q r.events, (r.settings, (r.level, (r.values, (decode w, (x, tt)))))))
    (after.counters, (tt, (tt, (tt, (tt, (tt, (tt, tt)))))))
    (saying_so answer after k)

call-exact : (m : World) → Exact (Call m)
call-exact m =
    record {
      only = λ w x r answer after c.
          only_step w x r answer after c.3 c.2
          (∥∥₁_map
          (said m (InParts (step_decoded (decode w) x r) (change_decoded (decode w) x r) _ after.counters) (c.4 tt (asked m)))
          (parts-by-word (decode w) w x r refl _ _));
      may = λ w x r. (
        any,
        any,
        change_by w x r,
        step-stayed w x r,
        λ g s. stated m (InParts (step_decoded (decode w) x r) (change_decoded (decode w) x r) _ _)
            (parts-decoded (decode w) w x r refl _ _ (step-in-parts w x r)) s,
      );
    }

-- the calls of `access::in_parts_decoded` answer and leave what `run` says
pub calls-are-run : (m : World) → CallsRun (Call m)
calls-are-run m = exact-calls-run (Call m) (call-exact m)

-- demand 3 of the calls of `access::in_parts_decoded`
pub calls-noninterference : (m : World) → CallsNoninterference (Call m)
calls-noninterference m = exact-noninterference (Call m) (call-exact m)
