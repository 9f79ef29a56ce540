-- `execute::tick_command` meets its contract: a case for each branch, by the contract of what it calls.
use borrow.Author.Tests.{lt-ltb, le-ltb}
use Rattle.execute.specs.Execute.{tick_command}
use Rattle.execute.proofs.tick_command.Goals as goal

pub returns-then-p-gt1 : goal.returns-then-p-gt1
unfolding tick_command
returns-then-p-gt1 c = simp (lt-ltb 1 c.args.p c.if-p-gt1.true)

pub returns : goal.returns
unfolding tick_command
returns c =
    simp (le-ltb 1 c.args.p c.if-p-gt1.false) c.tick.ensures
