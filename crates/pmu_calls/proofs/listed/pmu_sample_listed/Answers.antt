-- `pmu_sample_listed` meets its contract: the call without a list, and what is kept of it is listed.
use mathlib.Core.Path.{refl}
use Rattle.calls.proofs.Refused.{called-reply}
use Rattle.rules.specs.External.{member}
use Rattle.words.specs.Call.{call_of}
use Rattle.pmu_calls.proofs.Kept.{member-listed}
use Rattle.pmu_calls.proofs.listed.pmu_sample_listed.Goals as goal

pub returns : goal.returns
unfolding member
returns c =
    let s = c.args.m.now in
    let called = c.respond-a.ensures in (
      called-reply _ (call_of (member c.args.draw) s) s _ _ called refl _ c.from.ensures,
      member-listed s _ _ _ _ c.note.ensures _ called.answered c.kept-u.ensures,
    )
