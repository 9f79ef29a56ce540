-- `pmu_level_listed` meets its contract: `pmu_level`, and what is kept of it is listed.
use Rattle.calls.proofs.Refused.{made-reply}
use Rattle.pmu_calls.proofs.Kept.{level-listed}
use Rattle.pmu_calls.proofs.listed.pmu_level_listed.Goals as goal

pub returns : goal.returns
returns c =
    let s = c.args.m.now in
    let made = c.level-a.ensures in (
      made-reply _ _ s _ _ made _ c.from.ensures,
      level-listed s _ _ _ _ c.note.ensures _ made.answered c.kept-u.ensures,
    )
