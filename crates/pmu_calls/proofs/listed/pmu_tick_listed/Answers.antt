-- `pmu_tick_listed` meets its contract: the call without a list, and what is kept of it is listed.
use mathlib.Core.Path.{refl}
use Rattle.calls.proofs.Refused.{called-reply}
use Rattle.calls.specs.Replied.{tick_call}
use Rattle.pmu_calls.proofs.Kept.{tick-listed}
use Rattle.pmu_calls.proofs.listed.pmu_tick_listed.Goals as goal

pub returns : goal.returns
returns c =
    let s = c.args.m.now in
    let called = c.tick-a.ensures in (
      called-reply _ (tick_call c.args.prohibited s) s _ _ called refl _ c.from.ensures,
      tick-listed s _ _ _ _ c.note.ensures c.args.prohibited called.answered c.kept-u.ensures,
    )
