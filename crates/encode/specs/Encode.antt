-- The bytes of a command in each form.
use Rattle.std.specs.Prelude.{ℕ, cond, List, [], ◌∷◌, ◌++◌, eqb, Result, Ok, Err}
use Rattle.answer.specs.declared.Refusal.{Refusal}
use Rattle.command.specs.declared.Command.{Command}
use Rattle.form.specs.declared.Form.{Form}
use Rattle.form.specs.Sets.{narrowest}
use Rattle.command.specs.Operand.{little_bytes}

-- MODEL S1 and Z3: how many bytes a set command of the form gives its value
abbrev pub value_bytes : Form → ℕ → ℕ
value_bytes Form.Long v = 8
value_bytes Form.Short v = narrowest v

-- MODEL S1 and Z2: the byte of the set command whose value has k bytes
abbrev pub set_byte : ℕ → ℕ
set_byte k = cond (eqb k 1) 0x11 (cond (eqb k 4) 0x12 0x01)

-- MODEL S1, S7 and Z2: the bytes of a command
unfoldable pub bytes_of : Form → Command → List ℕ
bytes_of f Command.End = 0x00 ∷ []
bytes_of f (Command.Set a v) =
    let k = value_bytes f v in
    set_byte k ∷ (little_bytes 1 a ++ little_bytes k v)
bytes_of f (Command.Level l) = 0x02 ∷ little_bytes 1 l
bytes_of f (Command.Access w x) = 0x03 ∷ (little_bytes 4 w ++ little_bytes 8 x)
bytes_of f (Command.Read o) = 0x04 ∷ little_bytes 2 o
bytes_of f (Command.Write o x) = 0x05 ∷ (little_bytes 2 o ++ little_bytes 8 x)
bytes_of f (Command.Tick p) = 0x06 ∷ little_bytes 1 p
bytes_of f Command.Back = 0x07 ∷ []
bytes_of f (Command.Member d) = 0x08 ∷ little_bytes 1 d

-- MODEL S1 and Z4: the bytes of what was read; what is no command has none
abbrev pub read_bytes : Form → Result Command Refusal → List ℕ
read_bytes f (Ok c) = bytes_of f c
read_bytes f (Err r) = []
