-- Commands out of a session's bytes: which there are, how many bytes each takes, and which is the last.
use Rattle.std.specs.Prelude.{ℕ, zero, suc, ◌+◌, Bool, true, false, cond, List, [], ◌∷◌, leb, ltb, eqb, length, drop, Result, Ok}
use Rattle.std.specs.Prelude.{Err}
use Rattle.answer.specs.declared.Refusal.{Refusal}
use Rattle.answer.specs.declared.Refusal.TheVariants.{UnknownCommand, Truncated, SetTooWide}
use Rattle.answer.specs.Numbers.{refusal_number}
use Rattle.command.specs.declared.Command.{Command}
use Rattle.form.specs.declared.Form.{Form}
use Rattle.form.specs.Form.{form_of, body_of}
use Rattle.form.specs.Sets.{is_unknown, is_too_wide}
use Rattle.command.specs.Operand.{operand}

-- MODEL S1 and Z2: the bytes of the operands behind each command byte
abbrev pub operand_bytes : ℕ → ℕ
operand_bytes c =
    cond (eqb c 0x01) 9
    (cond (eqb c 0x02) 1
    (cond (eqb c 0x03) 12
    (cond (eqb c 0x04) 2
    (cond (eqb c 0x05) 10
    (cond (eqb c 0x06) 1
    (cond (eqb c 0x07) 0
    (cond (eqb c 0x08) 1
    (cond (eqb c 0x11) 2
    (cond (eqb c 0x12) 5 0)))))))))

-- MODEL S1, Z2 and R19: the set of field a to value v, which has k bytes
abbrev pub set_of : Form → ℕ → ℕ → ℕ → Result Command Refusal
set_of f k a v = cond (is_too_wide f k v) (Err SetTooWide) (Ok (Command.Set a v))

-- MODEL S1 and Z2: the command with byte c and the operands that follow it
abbrev pub command_with : Form → ℕ → List ℕ → Result Command Refusal
command_with f c s =
    cond (eqb c 0x01) (set_of f 8 (operand s 0 1) (operand s 1 8))
    (cond (eqb c 0x02) (Ok (Command.Level (operand s 0 1)))
    (cond (eqb c 0x03) (Ok (Command.Access (operand s 0 4) (operand s 4 8)))
    (cond (eqb c 0x04) (Ok (Command.Read (operand s 0 2)))
    (cond (eqb c 0x05) (Ok (Command.Write (operand s 0 2) (operand s 2 8)))
    (cond (eqb c 0x06) (Ok (Command.Tick (operand s 0 1)))
    (cond (eqb c 0x07) (Ok Command.Back)
    (cond (eqb c 0x08) (Ok (Command.Member (operand s 0 1)))
    (cond (eqb c 0x11) (set_of f 1 (operand s 0 1) (operand s 1 1))
    (cond (eqb c 0x12) (set_of f 4 (operand s 0 1) (operand s 1 4)) (Ok Command.End))))))))))

-- MODEL R1, R2, R19 and V1: the command that the bytes begin with, unless refused with 1, else with 2, else with 19
unfoldable pub command_of : Form → List ℕ → Result Command Refusal
command_of f [] = Err Truncated
command_of f (c ∷ rest) =
    cond (is_unknown f c) (Err UnknownCommand)
    (cond (ltb (length rest) (operand_bytes c)) (Err Truncated)
    (command_with f c rest))

-- MODEL S1 and Z2: how many bytes the command at the front takes, its own among them
abbrev pub size_at : List ℕ → ℕ
size_at [] = 0
size_at (c ∷ rest) = 1 + operand_bytes c

-- MODEL V2: reading stops behind refusals 1 and 2
abbrev pub stops_reading : Refusal → Bool
stops_reading r = leb (refusal_number r) 2

-- MODEL V2 and S3: reading stops behind this command
abbrev pub is_last : Result Command Refusal → Bool
is_last (Ok Command.End) = true
is_last (Ok (Command.Set f v)) = false
is_last (Ok (Command.Level l)) = false
is_last (Ok (Command.Access w x)) = false
is_last (Ok (Command.Read o)) = false
is_last (Ok (Command.Write o x)) = false
is_last (Ok (Command.Tick p)) = false
is_last (Ok Command.Back) = false
is_last (Ok (Command.Member d)) = false
is_last (Err r) = stops_reading r

-- MODEL S4 and V2: the commands that the bytes hold, as far as reading goes. The number bounds how many are read: a command takes
-- a byte or more
unfoldable pub commands_from : Form → ℕ → List ℕ → List (Result Command Refusal)
commands_from f zero s = []
commands_from f (suc n) s =
    let c = command_of f s in
    c ∷ cond (is_last c) [] (commands_from f n (drop (size_at s) s))

-- MODEL S4 and V2: the commands of bytes in a form
unfoldable pub commands_in : Form → List ℕ → List (Result Command Refusal)
commands_in f s = commands_from f (suc (length s)) s

-- MODEL S4 and Z1: the commands of a session
abbrev pub commands_of : List ℕ → List (Result Command Refusal)
commands_of s = commands_in (form_of s) (body_of s)

-- MODEL S1: the command is an access
abbrev pub is_access : Result Command Refusal → Bool
is_access (Ok Command.End) = false
is_access (Ok (Command.Set f v)) = false
is_access (Ok (Command.Level l)) = false
is_access (Ok (Command.Access w x)) = true
is_access (Ok (Command.Read o)) = false
is_access (Ok (Command.Write o x)) = false
is_access (Ok (Command.Tick p)) = false
is_access (Ok Command.Back) = false
is_access (Ok (Command.Member d)) = false
is_access (Err r) = false

-- MODEL S1 and H1: the command is a step back
abbrev pub is_back : Result Command Refusal → Bool
is_back (Ok Command.End) = false
is_back (Ok (Command.Set f v)) = false
is_back (Ok (Command.Level l)) = false
is_back (Ok (Command.Access w x)) = false
is_back (Ok (Command.Read o)) = false
is_back (Ok (Command.Write o x)) = false
is_back (Ok (Command.Tick p)) = false
is_back (Ok Command.Back) = true
is_back (Ok (Command.Member d)) = false
is_back (Err r) = false

-- MODEL S1: the command is a set
abbrev pub is_set : Result Command Refusal → Bool
is_set (Ok Command.End) = false
is_set (Ok (Command.Set f v)) = true
is_set (Ok (Command.Level l)) = false
is_set (Ok (Command.Access w x)) = false
is_set (Ok (Command.Read o)) = false
is_set (Ok (Command.Write o x)) = false
is_set (Ok (Command.Tick p)) = false
is_set (Ok Command.Back) = false
is_set (Ok (Command.Member d)) = false
is_set (Err n) = false
