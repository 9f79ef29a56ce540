-- `level` meets its contract: refused, or the level's word takes it.
use native.Mathlib.Omega.{arith}
use Rattle.fields.proofs.SetLaws.{level-large}
use Rattle.words.specs.Words.{record_of}
use Rattle.calls_fields.proofs.Sets.{refused-made, level-made}
use Rattle.calls_fields.proofs.level.Goals as goal

pub returns-then-l-gt-LEVEL : goal.returns-then-l-gt-LEVEL
returns-then-l-gt-LEVEL c =
    let b = c.args.m.now in
    refused-made _ _ _ b (level-large c.args.l (record_of b) c.if-l-gt-LEVEL.true)

pub returns : goal.returns
returns c =
    let b = c.args.m.now in
    level-made b (omega arith) c.args.l (omega (arith, c.if-l-gt-LEVEL.false))
