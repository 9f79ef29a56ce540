-- What is claimed of a session and its other form.
use Rattle.std.specs.Prelude.{ℕ, zero, suc, ◌+◌, ◌<◌, ◌≤◌, false, cond, List, [], ◌∷◌, ◌++◌, ◌≡◌, length, take, drop, Result, Ok}
use Rattle.answer.specs.declared.Refusal.{Refusal}
use Rattle.command.specs.declared.Command.{Command}
use Rattle.form.specs.declared.Form.{Form}
use Rattle.command.specs.Command.{command_of, size_at, is_last, commands_of}
use Rattle.form.specs.Form.{head_of, form_of, body_of, longest}
use Rattle.conversion.specs.Conversion.{other_form, bytes_in, session_in, bad_in, is_too_long, Conversion, conversion_of}
use Rattle.transcript.specs.Session.{output_of}

-- MODEL Z4: numbers that bytes hold. A session is a list of these
abbrev pub AreBytes : List ℕ → Type 0
AreBytes [] = Unit {0}
AreBytes (b ∷ s) = (b < 256) × AreBytes s

-- MODEL Z4: t is the other form of the session s
pub record OtherForm (s t : List ℕ) : Type 0 where
  pub bytes : AreBytes s
  pub converts : conversion_of s ≡ Conversion.Session t

-- MODEL Z4 and Z5: what a session is like that none of the refusals of a conversion is for: not too long, no refusal met in
-- reading up to an end command, and in the other form not too long
pub record Convertible (s : List ℕ) (cs : List (Result Command Refusal)) : Type 0 where
  pub bytes : AreBytes s
  pub short-enough : length (body_of s) ≤ longest
  pub reads : commands_of s ≡ cs ++ (Ok Command.End ∷ [])
  pub good : bad_in cs ≡ []
  pub fits : is_too_long (other_form (form_of s)) (length (bytes_in (other_form (form_of s)) (commands_of s))) ≡ false

-- MODEL Z5: each such session has another form
abbrev pub HasOther : Type 0
HasOther = (s : List ℕ) (cs : List (Result Command Refusal)) → Convertible s cs → (t : List ℕ) × OtherForm s t

-- MODEL Z4: which has the other form, and the same commands
abbrev pub SameCommands : Type 0
SameCommands = (s t : List ℕ) → OtherForm s t → (form_of t ≡ other_form (form_of s)) × (commands_of t ≡ commands_of s)

-- MODEL Z6: a session and its other form print the same lines
abbrev pub SameLines : Type 0
SameLines = (s t : List ℕ) → OtherForm s t → output_of t ≡ output_of s

-- MODEL Z7: of bytes in a form, those through the last command that is read. The number bounds how many are read
unfoldable pub read_from : Form → ℕ → List ℕ → List ℕ
read_from f zero s = []
read_from f (suc n) s = take (size_at s) s ++ cond (is_last (command_of f s)) [] (read_from f n (drop (size_at s) s))

-- MODEL Z7: a session through the last command that is read
unfoldable pub read_of : List ℕ → List ℕ
read_of s = head_of (form_of s) ++ read_from (form_of s) (suc (length (body_of s))) (body_of s)

-- MODEL Z7: what is read of a session that has another form stands at its front, and the last command of it is the end command
abbrev pub ReadsThrough : Type 0
ReadsThrough =
    (s t : List ℕ) → OtherForm s t
    → ((rest : List ℕ) × (read_of s ++ rest ≡ s)) × ((cs : List (Result Command Refusal))
    × (commands_of s ≡ cs ++ (Ok Command.End ∷ [])))

-- MODEL Z7: the other form has another form, which is the session through its end command
abbrev pub ThereAndBack : Type 0
ThereAndBack = (s t : List ℕ) → OtherForm s t → OtherForm t (read_of s)

-- MODEL Z8: commands have one byte more in the short form at most
abbrev pub OneMore : Type 0
OneMore = (cs : List (Result Command Refusal)) → length (session_in Form.Short cs) ≤ 1 + length (session_in Form.Long cs)

-- MODEL Z8: of two forms, the first in form f, the short one is not longer by more than that
abbrev pub NotLongerIn : Form → List ℕ → List ℕ → Type 0
NotLongerIn Form.Long long short = length short ≤ 1 + length long
NotLongerIn Form.Short short long = length short ≤ 1 + length long

-- MODEL Z8: so it is of a session, through its end command, and its other form
abbrev pub NotLonger : Type 0
NotLonger = (s t : List ℕ) → OtherForm s t → NotLongerIn (form_of s) (read_of s) t

-- MODEL X12: no converted session is empty
abbrev pub NotEmpty : Type 0
NotEmpty = (s t : List ℕ) → OtherForm s t → 1 ≤ length t
