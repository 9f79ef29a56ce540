-- `line::value` meets its contract.
use native.Mathlib.Omega.{arith}
use Rattle.line.specs.Line.{text_of}
use Rattle.text.proofs.Writes.{wrote_on}
use Rattle.line.proofs.value.Goals as goal

pub returns : goal.returns
unfolding text_of
returns c = (wrote_on c.bytes.ensures c.hex.ensures.wrote, omega arith)
