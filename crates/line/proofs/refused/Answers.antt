-- `line::refused` meets its contract.
use native.Mathlib.Omega.{arith}
use Rattle.line.specs.Line.{text_of}
use Rattle.text.proofs.Writes.{wrote_on}
use Rattle.line.proofs.refused.Goals as goal

pub returns : goal.returns
unfolding text_of
returns c =
    let number = simp c.from.ensures at c.decimal.ensures.wrote in
    (wrote_on c.bytes.ensures number, omega arith)
