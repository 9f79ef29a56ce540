-- The conversions of specs/Example are what is said there. Computed.
use mathlib.Core.List.{map}
use mathlib.Core.Path.{◌≡◌, refl}
use Rattle.command.specs.Command.{command_of, commands_from, commands_in}
use Rattle.encode.specs.Encode.{bytes_of}
use Rattle.conversion.specs.Conversion.{bytes_in, bad_in, converted, conversion_of}
use Rattle.conversion.specs.Example.{Example, examples}

pub examples-hold : map (λ (e : Example). conversion_of e.input) examples ≡ map (λ (e : Example). e.conversion) examples
unfolding command_of commands_from commands_in bytes_of bytes_in bad_in converted conversion_of examples
examples-hold = refl
