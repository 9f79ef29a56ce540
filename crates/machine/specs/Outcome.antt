-- Answers together with the record afterwards.
use Rattle.answer.specs.declared.Answer.{Answer}
use Rattle.answer.specs.declared.Refusal.{Refusal}
use Rattle.machine.specs.declared.Machine.{Machine}
use Rattle.machine.specs.declared.Outcome.{Outcome}

-- MODEL L1: an answer, with the record afterwards
abbrev pub says : Answer → Machine → Outcome
says a r = record { answer = a; machine = r }

-- MODEL R0: a refusal leaves the record as it was
abbrev pub refused : Refusal → Machine → Outcome
refused n r = says (Answer.Refused n) r

-- MODEL L1: the answer `ok`, with the record afterwards
abbrev pub done : Machine → Outcome
done r = says Answer.Ok r
