-- `pmu_sample` meets its contract: the request, replied.
use mathlib.Core.Path.{refl}
use Rattle.calls.proofs.Refused.{called-reply}
use Rattle.rules.specs.External.{member}
use Rattle.words.specs.Call.{call_of}
use Rattle.pmu_calls.proofs.pmu_sample.Goals as goal

pub returns : goal.returns
unfolding member
returns c =
    let s = c.args.m.now in
    called-reply _ (call_of (member c.args.draw) s) s _ _ c.respond.ensures refl _ c.from.ensures
