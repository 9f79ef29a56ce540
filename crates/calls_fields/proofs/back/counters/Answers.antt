-- `counters` meets its contract: a case for each kind of change that was kept.
use native.Mathlib.Omega.{arith}
use Rattle.std.proofs.Common.{inl, inr}
use Rattle.words.specs.Words.{word, on, events_of}
use Rattle.calls_fields.proofs.Taken.{one-back, none-back}
use Rattle.calls_fields.proofs.back.counters.Goals as goal

pub returns-then-c-lt96 : goal.returns-then-c-lt96
returns-then-c-lt96 c =
    let s = c.args.m.now in
    none-back s (events_of s) c.args.c (on 0x01 (word s)) (λ z. omega (arith, z)) (inl (omega arith))

pub returns-in-96-to-126 : goal.returns-in-96-to-126
returns-in-96-to-126 c =
    let s = c.args.m.now in
    one-back s (events_of s) c.args.c (on 0x01 (word s)) (omega arith) (omega arith)

pub returns-else-c-lt127 : goal.returns-else-c-lt127
returns-else-c-lt127 c =
    let s = c.args.m.now in
    none-back s (events_of s) c.args.c (on 0x01 (word s)) (λ z. omega (arith, z)) (inr (omega arith))
