-- `pmu_external_write` meets its contract: the request, replied.
use mathlib.Core.Path.{refl}
use Rattle.calls.proofs.Refused.{called-reply}
use Rattle.rules.specs.External.{external_write}
use Rattle.words.specs.Call.{call_of}
use Rattle.pmu_calls.proofs.pmu_external_write.Goals as goal

pub returns : goal.returns
unfolding external_write
returns c =
    let s = c.args.m.now in
    called-reply _ (call_of (external_write c.args.offset c.args.value) s) s _ _
    c.respond.ensures refl _ c.from.ensures
