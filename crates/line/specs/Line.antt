-- The line that a command gives.
use Rattle.std.specs.Prelude.{ℕ, List, ◌++◌}
use Rattle.answer.specs.declared.Answer.{Answer}
use Rattle.answer.specs.Numbers.{refusal_number, level_number, cause_number}
use Rattle.text.specs.Text.{bytes, decimal, hex}

-- MODEL L1: the text of an answer
unfoldable pub text_of : Answer → List ℕ
text_of Answer.Ok = bytes "ok"
text_of Answer.Sampled = bytes "sampled"
text_of Answer.End = bytes "end"
text_of Answer.Undef = bytes "undef"
text_of Answer.Other = bytes "other"
text_of Answer.Error = bytes "error"
text_of (Answer.Trap t) =
    bytes "trap " ++ decimal (level_number t.target) ++ bytes " " ++ hex 8 t.syndrome ++ bytes " "
    ++ decimal (cause_number t.cause)
text_of (Answer.Value x) = bytes "value " ++ hex 16 x
text_of (Answer.Mrs x rt) = bytes "value " ++ hex 16 x ++ bytes " " ++ decimal rt
text_of (Answer.Refused r) = bytes "refused " ++ decimal (refusal_number r)

-- MODEL L2: the line of an answer at its position
unfoldable pub line_of : ℕ → Answer → List ℕ
line_of position a = decimal position ++ bytes " " ++ text_of a ++ bytes "\n"
