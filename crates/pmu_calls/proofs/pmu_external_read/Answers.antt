-- `pmu_external_read` meets its contract: the request, replied.
use mathlib.Core.Path.{refl}
use Rattle.calls.proofs.Refused.{called-reply}
use Rattle.rules.specs.External.{external_read}
use Rattle.words.specs.Call.{call_of}
use Rattle.pmu_calls.proofs.pmu_external_read.Goals as goal

pub returns : goal.returns
unfolding external_read
returns c =
    let s = c.args.m.now in
    called-reply _ (call_of (external_read c.args.offset) s) s _ _ c.respond.ensures refl _
    c.from.ensures
