-- `events` meets its contract: they are one run of words.
use native.Mathlib.Omega.{arith}
use Rattle.words.proofs.United.{events-united}
use Rattle.words.proofs.untyped.events.Goals as goal

pub returns : goal.returns
returns c = events-united c.args.m.now (omega arith) c.united.ensures
