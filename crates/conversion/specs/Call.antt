-- What the conversion call answers, and what it leaves in the buffer.
use Rattle.std.specs.Prelude.{ℕ, ◌+◌, cond, List, [], ◌∷◌, ◌++◌, ltb, length, drop, Result, Ok, Err}
use Rattle.answer.specs.declared.Refusal.{Refusal}
use Rattle.command.specs.declared.Command.{Command}
use Rattle.form.specs.declared.Form.{Form}
use Rattle.form.specs.Form.{longest}
use Rattle.conversion.specs.declared.NotConverted.{NotConverted}
use Rattle.conversion.specs.Conversion.{bytes_in, bad_in, Conversion, conversion_of}

-- MODEL X11: the bytes that any session fits into: the limit, and the first of a short one
abbrev pub room : ℕ
room = 1 + longest

-- MODEL Z5: the first of these refusals, or else a number of bytes
abbrev pub first_or_bytes : List Refusal → ℕ → Result ℕ Refusal
first_or_bytes [] n = Ok n
first_or_bytes (r ∷ rs) n = Err r

-- MODEL Z5: how many bytes commands have in a form, unless reading one met a refusal
abbrev pub measure_of : Form → List (Result Command Refusal) → Result ℕ Refusal
measure_of f cs = first_or_bytes (bad_in cs) (length (bytes_in f cs))

-- MODEL X11: a conversion as the call answers it
abbrev pub answer_of : Conversion → Result ℕ NotConverted
answer_of (Conversion.Refused r) = Err (NotConverted.Refused r)
answer_of (Conversion.Session t) = Ok (length t)

-- MODEL X11: what a buffer then holds
abbrev pub held_of : Conversion → List ℕ → List ℕ
held_of (Conversion.Refused r) out = out
held_of (Conversion.Session t) out = t ++ drop (length t) out

-- MODEL X11: what the call answers, given the session and the buffer
unfoldable pub result_of : List ℕ → List ℕ → Result ℕ NotConverted
result_of s out = cond (ltb (length out) room) (Err NotConverted.NoRoom) (answer_of (conversion_of s))

-- MODEL X11: what the buffer then holds
unfoldable pub buffer_of : List ℕ → List ℕ → List ℕ
buffer_of s out = cond (ltb (length out) room) out (held_of (conversion_of s) out)
