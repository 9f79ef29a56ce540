-- `conversion::write_commands`: what is written and what is left to be is the whole.
use Rattle.command.specs.Command.{commands_in}
use Rattle.command.specs.Left.{commands_left}
use Rattle.text.proofs.Writes.{Writing}
use Rattle.conversion.specs.Conversion.{bytes_in}
use Rattle.conversion.proofs.write_commands.Given as goal

abbrev pub invariant-loop-read : goal.invariant-loop-read
invariant-loop-read l =
    Writing l.initial.w (bytes_in l.g (commands_in l.fn.f l.body)) l.w (bytes_in l.g (commands_left l.read-iterator))
