-- `line::line` meets its contract.
use native.Mathlib.Omega.{arith}
use Rattle.line.specs.Line.{line_of}
use Rattle.text.proofs.Writes.{wrote_on}
use Rattle.line.proofs.line.Goals as goal

pub returns : goal.returns
unfolding line_of
returns c =
    let front = wrote_on c.decimal.ensures.wrote c.bytes.ensures in
    (wrote_on (wrote_on front c.answer_text.ensures.0) c.bytes-2.ensures, omega arith)
