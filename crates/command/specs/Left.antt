-- What the iterator over a session's commands has left.
use Rattle.std.specs.Prelude.{List, [], Result}
use Rattle.std.specs.Option.{option_map_or}
use Rattle.answer.specs.declared.Refusal.{Refusal}
use Rattle.command.specs.declared.Command.{Command}
use Rattle.command.specs.declared.reading.Commands.{Commands}
use Rattle.command.specs.Command.{commands_in}

-- MODEL S4 and V2: the commands of the bytes that are left to read, and none where reading has ended
abbrev pub commands_left : Commands → List (Result Command Refusal)
commands_left c = option_map_or (λ rest. commands_in c.form rest.now) c.rest []
