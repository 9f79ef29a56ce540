-- The measured loops: a list of accesses from a record that a list of sets makes, and a sum over the answers, so that no
-- access whose answer counts can be left out.
use Rattle.std.specs.Prelude.{ℕ, ◌+◌, ◌/◌, ◌%◌, ◌^◌, List, [], ◌∷◌, map}
use Rattle.answer.specs.declared.Answer.{Answer}
use Rattle.answer.specs.Numbers.{cause_number}
use Rattle.machine.specs.declared.Machine.{Machine}
use Rattle.machine.specs.Machine.{fresh}
use Rattle.fields.specs.Set.{set_all}
use Rattle.rules.specs.Step.{Access, run}

-- MODEL X5: an entry as a set command: the field in bits 39:32, the value in bits 31:0
abbrev pub set_of : ℕ → ℕ × ℕ
set_of e = (e / 2 ^ 32 % 256, e % 2 ^ 32)

-- MODEL X5: the record that a list starts from, the fresh one after set commands
abbrev pub started : List ℕ → Machine
started sets = set_all (map set_of sets) fresh

-- MODEL X5: an entry as an access with operand x: the level in bits 33:32, the word in bits 31:0
abbrev pub access_of : ℕ → ℕ → Access
access_of x c = record { level = c / 2 ^ 32 % 4; word = c % 2 ^ 32; operand = x }

-- MODEL X5: what an answer adds to the sum
abbrev pub worth : Answer → ℕ
worth Answer.Ok = 1
worth Answer.Sampled = 0
worth Answer.End = 0
worth Answer.Undef = 0
worth Answer.Other = 0
worth Answer.Error = 0
worth (Answer.Trap t) = t.syndrome + cause_number t.cause
worth (Answer.Value v) = v
worth (Answer.Mrs v t) = v
worth (Answer.Refused n) = 0

-- MODEL X5: the sum of answers
abbrev pub sum_of : List Answer → ℕ
sum_of [] = 0
sum_of (a ∷ rest) = worth a + sum_of rest

-- MODEL X5: the sum of what a list of accesses answers, all with operand x, modulo 2^64
unfoldable pub total : List ℕ → ℕ → Machine → ℕ
total list x r = sum_of (run (map (access_of x) list) r).answers % 2 ^ 64
