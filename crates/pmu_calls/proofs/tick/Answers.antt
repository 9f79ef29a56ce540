-- `tick` meets its contract: refused with 4, or the request.
use mathlib.Core.Bool.{Bool, cond}
use mathlib.Core.Path.{sym, ap}
use borrow.Author.Tests.{le-ltb}
use Rattle.answer.specs.declared.Refusal.TheVariants.{ValueTooLarge}
use Rattle.calls.specs.Replied.{tick_call}
use Rattle.calls.proofs.Refused.{called-as}
use Rattle.machine.specs.Outcome.{refused}
use Rattle.rules.specs.External.{tick}
use Rattle.words.specs.Call.{call_of}
use Rattle.words.specs.Words.{record_of}
use lib.Dec.{eqb}
use native.Mathlib.Omega.{arith}
use Rattle.pmu_calls.proofs.tick.Goals as goal

pub returns : goal.returns
unfolding tick
returns c =
    let s = c.args.m.now in
    let p = c.args.prohibited in
    called-as _ (tick_call p s) s _ _
    (sym (ap (λ (b : Bool). cond b (refused ValueTooLarge (record_of s)) (call_of (tick (eqb p 1)) s))
    (le-ltb 1 p (omega arith))))
    c.respond.ensures
