-- The two forms of a session: how a short one begins, and which bytes are the commands'.
use Rattle.std.specs.Prelude.{ℕ, cond, List, [], ◌∷◌, eqb, length, drop}
use Rattle.form.specs.declared.Form.{Form}

-- MODEL Z1: what stands before the commands
abbrev pub head_of : Form → List ℕ
head_of Form.Long = []
head_of Form.Short = 0x10 ∷ []

-- MODEL Z1: the form of a session
abbrev pub form_of : List ℕ → Form
form_of [] = Form.Long
form_of (b ∷ rest) = cond (eqb b 0x10) Form.Short Form.Long

-- MODEL Z1: the bytes of a session that the limit counts: its commands, and what follows them
abbrev pub body_of : List ℕ → List ℕ
body_of s = drop (length (head_of (form_of s))) s

-- MODEL S5: the limit, in bytes
abbrev pub longest : ℕ
longest = 4096
