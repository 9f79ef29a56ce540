-- `untyped` meets its contract: the words of a kind, united, are tested at once.
use Rattle.words.proofs.United.{all-tests}
use Rattle.words.proofs.untyped.untyped.Goals as goal

pub returns : goal.returns
returns c = all-tests c.args.m.now c.flags.ensures c.events.ensures
