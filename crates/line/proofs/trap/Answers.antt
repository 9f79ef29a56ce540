-- `line::trap` meets its contract.
use native.Mathlib.Omega.{arith}
use Rattle.line.specs.Line.{text_of}
use Rattle.text.proofs.Writes.{wrote_on}
use Rattle.line.proofs.trap.Goals as goal

pub returns : goal.returns
unfolding text_of
returns c =
    let level = simp c.from.ensures at c.decimal.ensures.wrote in
    let cause = simp c.from-2.ensures at c.decimal-2.ensures.wrote in
    let front = wrote_on c.bytes.ensures level in
    let syndrome = wrote_on (wrote_on front c.bytes-2.ensures) c.hex.ensures.wrote in
    (wrote_on (wrote_on syndrome c.bytes-3.ensures) cause, omega arith)
