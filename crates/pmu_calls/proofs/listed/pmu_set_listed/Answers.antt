-- `pmu_set_listed` meets its contract: `pmu_set`, and the list is emptied.
use Rattle.words.specs.Words.{record_of}
use Rattle.calls.proofs.Refused.{made-reply}
use Rattle.pmu_calls.proofs.Kept.{set-emptied}
use Rattle.pmu_calls.proofs.listed.pmu_set_listed.Goals as goal

pub returns : goal.returns
returns c =
    let s = c.args.m.now in
    let made = c.set-a.ensures in (
      made-reply _ _ s _ _ made _ c.from.ensures,
      set-emptied (record_of s) _ _ _ _ _ made.answered c.forget.ensures,
    )
