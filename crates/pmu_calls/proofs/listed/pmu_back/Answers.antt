-- `pmu_back` meets its contract: nothing is listed, or the latest entry is put back.
use Rattle.pmu_calls.proofs.Back.{nothing, latest-of}
use Rattle.pmu_calls.proofs.listed.pmu_back.Goals as goal

pub returns-in-None : goal.returns-in-None
returns-in-None c =
    let recalled = c.in-None.ensures in
    nothing c.args.m.now c.args.list.now _ recalled.1 recalled.0 _ c.refused.ensures

pub returns-in-Some : goal.returns-in-Some
returns-in-Some c =
    let recalled = c.in-Some.ensures in
    let there = c.undone.ensures in
    latest-of c.args.m.now c.args.list.now _ recalled.1 _ recalled.0 _ there.0 there.1 _ c.done.ensures
