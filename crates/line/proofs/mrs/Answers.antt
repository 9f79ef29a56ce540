-- `line::mrs` meets its contract.
use native.Mathlib.Omega.{arith}
use Rattle.line.specs.Line.{text_of}
use Rattle.text.proofs.Digits.{decimal-length}
use Rattle.text.proofs.Writes.{wrote_on}
use Rattle.line.proofs.mrs.Goals as goal

pub returns : goal.returns
unfolding text_of
returns c =
    let number = decimal-length 2 c.args.rt (omega (arith, c.ranges.rt)) in
    let front = wrote_on c.bytes.ensures c.hex.ensures.wrote in
    (wrote_on (wrote_on front c.bytes-2.ensures) c.decimal.ensures.wrote, omega (arith, number))
