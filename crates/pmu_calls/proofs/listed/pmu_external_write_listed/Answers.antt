-- `pmu_external_write_listed` meets its contract: the call without a list, and what is kept of it is listed.
use mathlib.Core.Path.{refl}
use Rattle.calls.proofs.Refused.{called-reply}
use Rattle.rules.specs.External.{external_write}
use Rattle.words.specs.Call.{call_of}
use Rattle.pmu_calls.proofs.Kept.{write-listed}
use Rattle.pmu_calls.proofs.listed.pmu_external_write_listed.Goals as goal

pub returns : goal.returns
unfolding external_write
returns c =
    let s = c.args.m.now in
    let called = c.respond-a.ensures in (
      called-reply _ (call_of (external_write c.args.offset c.args.value) s) s _ _ called refl _
          c.from.ensures,
      write-listed s _ _ _ _ c.note.ensures _ _ called.answered c.kept-u.ensures,
    )
