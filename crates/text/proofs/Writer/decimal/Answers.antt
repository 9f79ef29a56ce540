-- `Writer::decimal`: one law for each number of digits.
use Rattle.text.proofs.Digits.{decimal-1, decimal-2, decimal-3, decimal-4}
use Rattle.text.proofs.Writer.decimal.Goals as goal

pub returns-then-n-lt10-clause-wrote : goal.returns-then-n-lt10-clause-wrote
returns-then-n-lt10-clause-wrote c =
    rw (decimal-1 c.args.n c.if-n-lt10.true) (simp c.digit.ensures at c.bytes.ensures)

pub returns-then-n-lt100-clause-wrote : goal.returns-then-n-lt100-clause-wrote
returns-then-n-lt100-clause-wrote c =
    rw (decimal-2 c.args.n c.if-n-lt10.false c.if-n-lt100.true)
    (simp (c.digit-then-n-lt100.ensures, c.digit-then-n-lt100-2.ensures) at c.bytes-then-n-lt100.ensures)

pub returns-then-n-lt1000-clause-wrote : goal.returns-then-n-lt1000-clause-wrote
returns-then-n-lt1000-clause-wrote c =
    rw (decimal-3 c.args.n c.if-n-lt100.false c.if-n-lt1000.true)
    (simp (c.digit-then-n-lt1000.ensures, c.digit-then-n-lt1000-2.ensures, c.digit-then-n-lt1000-3.ensures)
    at c.bytes-then-n-lt1000.ensures)

pub returns-else-n-lt1000-clause-wrote : goal.returns-else-n-lt1000-clause-wrote
returns-else-n-lt1000-clause-wrote c =
    rw (decimal-4 c.args.n c.if-n-lt1000.false c.requires.0)
    (simp (
      c.digit-else-n-lt1000.ensures,
      c.digit-else-n-lt1000-2.ensures,
      c.digit-else-n-lt1000-3.ensures,
      c.digit-else-n-lt1000-4.ensures,
    ) at c.bytes-else-n-lt1000.ensures)
