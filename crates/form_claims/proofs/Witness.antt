-- There are sessions of which the claims speak: one with a set and an end command, in both forms. Computed.
use Prim.Native.Nat.{ℕ}
use mathlib.Core.List.{List, [], ◌∷◌}
use mathlib.Core.Path.{refl}
use native.Mathlib.Omega.{arith}
use Rattle.std.specs.Prelude.{Result, Ok}
use Rattle.answer.specs.declared.Refusal.{Refusal}
use Rattle.command.specs.declared.Command.{Command}
use Rattle.form.specs.declared.Form.{Form}
use Rattle.command.specs.Command.{command_of, commands_from, commands_in}
use Rattle.encode.specs.Encode.{bytes_of}
use Rattle.conversion.specs.Conversion.{bytes_in, session_in, bad_in, converted, conversion_of}
use Rattle.form_claims.specs.Claims.{OtherForm, Convertible}
use Rattle.form_claims.proofs.Sessions.{session-bytes}

abbrev commands : List (Result Command Refusal)
commands = Ok (Command.Set 0x00 1) ∷ Ok Command.End ∷ []

abbrev long : List ℕ
long = session_in Form.Long commands

abbrev short : List ℕ
short = session_in Form.Short commands

pub to-short : OtherForm long short
unfolding command_of commands_from commands_in bytes_of bytes_in bad_in converted conversion_of
to-short = record { bytes = session-bytes Form.Long commands; converts = refl }

pub to-long : OtherForm short long
unfolding command_of commands_from commands_in bytes_of bytes_in bad_in converted conversion_of
to-long = record { bytes = session-bytes Form.Short commands; converts = refl }

pub convertible : Convertible short (Ok (Command.Set 0x00 1) ∷ [])
unfolding command_of commands_from commands_in bytes_of bytes_in bad_in
convertible =
    record {
      bytes = session-bytes Form.Short commands;
      short-enough = omega arith;
      reads = refl;
      good = refl;
      fits = refl;
    }
