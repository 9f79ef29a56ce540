-- The one table of the numbers that stand for answers where they cross to C and Rust.
use Rattle.std.specs.Prelude.{ℕ}
use Rattle.answer.specs.declared.Answer.{Answer}
use Rattle.answer.specs.Numbers.{refusal_number, level_number, cause_number}
use Rattle.reply.specs.declared.Reply.{Reply}

-- MODEL X15: a reply with these numbers
abbrev pub reply : ℕ → ℕ → ℕ → ℕ → Reply
reply kind detail cause value = record { kind = kind; detail = detail; cause = cause; value = value }

-- MODEL X15: an answer as its kind, then the level that takes a trap, the number of Rt or of the refusal, then the cause of a
-- trap, then the value or the syndrome
abbrev pub reply_of : Answer → Reply
reply_of Answer.Ok = reply 1 0 0 0
reply_of Answer.Sampled = reply 2 0 0 0
reply_of Answer.End = reply 3 0 0 0
reply_of Answer.Undef = reply 4 0 0 0
reply_of Answer.Other = reply 5 0 0 0
reply_of Answer.Error = reply 6 0 0 0
reply_of (Answer.Trap t) = reply 7 (level_number t.target) (cause_number t.cause) t.syndrome
reply_of (Answer.Value x) = reply 8 0 0 x
reply_of (Answer.Mrs x rt) = reply 9 rt 0 x
reply_of (Answer.Refused n) = reply 10 (refusal_number n) 0 0
