-- Which answers are refusals.
use Rattle.std.specs.Prelude.{Bool, true, false}
use Rattle.answer.specs.declared.Answer.{Answer}

-- MODEL R0: the answer is a refusal
abbrev pub is_refused : Answer → Bool
is_refused Answer.Ok = false
is_refused Answer.Sampled = false
is_refused Answer.End = false
is_refused Answer.Undef = false
is_refused Answer.Other = false
is_refused Answer.Error = false
is_refused (Answer.Trap t) = false
is_refused (Answer.Value x) = false
is_refused (Answer.Mrs x t) = false
is_refused (Answer.Refused n) = true
