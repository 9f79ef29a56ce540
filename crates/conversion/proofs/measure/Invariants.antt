-- `conversion::measure`: what is measured and what is left is the whole.
use Rattle.command.specs.Command.{commands_in}
use Rattle.command.specs.Left.{commands_left}
use Rattle.conversion.proofs.Measuring.{Measuring}
use Rattle.conversion.proofs.measure.Given as goal

abbrev pub invariant-loop-read : goal.invariant-loop-read
invariant-loop-read l = Measuring l.g (commands_in l.fn.f l.body) (commands_left l.read-iterator) l.total
