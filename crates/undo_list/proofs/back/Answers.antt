-- `undo_list::back` meets its contract: nothing is listed, or the latest entry is taken back.
use Rattle.undo_list.proofs.Noted.{nothing-back, latest-back}
use Rattle.undo_list.proofs.back.Goals as goal

pub returns-in-None : goal.returns-in-None
returns-in-None c =
    let recalled = c.in-None.ensures in
    (nothing-back c.args.r _ _ recalled.0 recalled.1, recalled.1)

pub returns-in-Some : goal.returns-in-Some
returns-in-Some c =
    let recalled = c.in-Some.ensures in
    (latest-back c.args.r _ _ recalled.0 recalled.1 _ c.undone.ensures, recalled.1)
