-- The other form of a session, or why there is none.
use Rattle.std.specs.Prelude.{ℕ, Bool, false, cond, List, [], ◌∷◌, ◌++◌, ltb, length, Result, Ok, Err}
use Rattle.answer.specs.declared.Refusal.{Refusal}
use Rattle.answer.specs.declared.Refusal.TheVariants.{SessionTooLong, LongFormTooLong}
use Rattle.command.specs.declared.Command.{Command}
use Rattle.form.specs.declared.Form.{Form}
use Rattle.command.specs.Command.{commands_of}
use Rattle.form.specs.Form.{head_of, form_of, body_of, longest}
use Rattle.encode.specs.Encode.{read_bytes}

-- MODEL Z4: the form that a session is converted to
abbrev pub other_form : Form → Form
other_form Form.Long = Form.Short
other_form Form.Short = Form.Long

-- MODEL Z4: commands in a form, one behind the other
unfoldable pub bytes_in : Form → List (Result Command Refusal) → List ℕ
bytes_in f [] = []
bytes_in f (c ∷ cs) = read_bytes f c ++ bytes_in f cs

-- MODEL Z4: a session with these commands
abbrev pub session_in : Form → List (Result Command Refusal) → List ℕ
session_in f cs = head_of f ++ bytes_in f cs

-- MODEL Z5: the refusal that is met in reading a command: 1, 2 or 19
abbrev pub bad_of : Result Command Refusal → List Refusal
bad_of (Ok c) = []
bad_of (Err r) = r ∷ []

-- MODEL Z5: all of these, in the order in which they are met
unfoldable pub bad_in : List (Result Command Refusal) → List Refusal
bad_in [] = []
bad_in (c ∷ cs) = bad_of c ++ bad_in cs

-- MODEL Z5: so many bytes of commands are too many for the form. A short form never has too many (Z8)
abbrev pub is_too_long : Form → ℕ → Bool
is_too_long Form.Long n = ltb longest n
is_too_long Form.Short n = false

-- MODEL Z5: what a conversion gives
pub data Conversion : Type 0 where
  Refused : Refusal → Conversion
  Session : List ℕ → Conversion

-- MODEL Z5: the first of these refusals, or else what follows
abbrev pub first_or : List Refusal → Conversion → Conversion
first_or [] otherwise = otherwise
first_or (r ∷ rs) otherwise = Conversion.Refused r

-- MODEL Z4 and Z5: these commands in a form, unless reading one met a refusal, or they are too long
unfoldable pub converted : Form → List (Result Command Refusal) → Conversion
converted f cs =
    first_or (bad_in cs)
    (cond (is_too_long f (length (bytes_in f cs))) (Conversion.Refused LongFormTooLong) (Conversion.Session (session_in f cs)))

-- MODEL Z5: the conversion of a session
unfoldable pub conversion_of : List ℕ → Conversion
conversion_of s =
    cond (ltb longest (length (body_of s))) (Conversion.Refused SessionTooLong)
    (converted (other_form (form_of s)) (commands_of s))
