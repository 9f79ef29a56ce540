-- The answers of a session's commands, and the whole output.
use Rattle.std.specs.Prelude.{ℕ, suc, ◌+◌, ◌*◌, cond, List, [], ◌∷◌, ◌++◌, ltb, length, drop, Result, Ok, Err}
use Rattle.answer.specs.declared.Answer.{Answer}
use Rattle.answer.specs.declared.Refusal.TheVariants.{SessionTooLong}
use Rattle.transcript.specs.declared.TooShort.{TooShort}
use Rattle.form.specs.declared.Form.{Form}
use Rattle.command.specs.Command.{commands_in}
use Rattle.form.specs.Form.{form_of, body_of, longest}
use Rattle.execute.specs.Execute.{perform}
use Rattle.undo_list.specs.History.{begun}
use Rattle.line.specs.Line.{line_of}

-- MODEL S4 and L2: the lines of answers, from a position on
unfoldable pub lines_from : ℕ → List Answer → List ℕ
lines_from position [] = []
lines_from position (a ∷ rest) = line_of position a ++ lines_from (suc position) rest

-- MODEL S2 and S4: the answers of bytes in a form: their commands, run from the fresh record, with nothing listed
unfoldable pub answers_in : Form → List ℕ → List Answer
answers_in f s = (perform (commands_in f s) begun).answers

-- MODEL S2, S4 and Z1: the answers of a session that is not too long
abbrev pub answers_of : List ℕ → List Answer
answers_of s = answers_in (form_of s) (body_of s)

-- MODEL R6, S5, Z1 and V1: the whole output. The limit does not count the byte that a short session begins with
unfoldable pub output_of : List ℕ → List ℕ
output_of s = cond (ltb longest (length (body_of s))) (line_of 0 (Answer.Refused SessionTooLong)) (lines_from 1 (answers_of s))

-- MODEL X1: the bytes that any session's output fits into: a line has at most 32 bytes, and a command that is not the last
-- takes 2 or more of at most 4,096, but for the step back, whose line has at most 16; so a byte of input prints 16 at most,
-- and the last line has room with some to spare
abbrev pub room : ℕ
room = 16 * longest + 64

-- MODEL X2: the one error
abbrev pub too_short : TooShort
too_short = record {}

-- MODEL X2: what the library function answers, given the session and the buffer: too short a buffer is named, else the
-- output's length
unfoldable pub result_of : List ℕ → List ℕ → Result ℕ TooShort
result_of s out = cond (ltb (length out) room) (Err too_short) (Ok (length (output_of s)))

-- MODEL X2: what the buffer then holds: nothing is written to one that is too short, else the output stands at its front
unfoldable pub buffer_of : List ℕ → List ℕ → List ℕ
buffer_of s out = cond (ltb (length out) room) out (output_of s ++ drop (length (output_of s)) out)
