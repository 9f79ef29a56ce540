-- `flags` meets its contract: the runs of one-bit fields, one after another, are all of them.
use native.Mathlib.Omega.{arith}
use Rattle.words.proofs.United.{flags-united}
use Rattle.words.proofs.untyped.flags.Goals as goal

pub returns : goal.returns
returns c =
    flags-united c.args.m.now (omega arith) c.united-to_0b.ensures c.united-to_12.ensures c.united-to_26.ensures
    c.united-to_31.ensures c.united-to_36.ensures c.united-to_3e.ensures c.united-to_87.ensures c.united.ensures
