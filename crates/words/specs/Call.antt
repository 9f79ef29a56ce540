-- A call on words: what is refused before the record that they hold is looked at, and what a call leaves.
use Rattle.std.specs.Prelude.{ℕ, cond, List, ◌≡◌}
use Rattle.answer.specs.declared.Answer.{Answer}
use Rattle.answer.specs.declared.Refusal.TheVariants.{FieldTooLarge}
use Rattle.answer.specs.Refused.{is_refused}
use Rattle.machine.specs.declared.Machine.{Machine}
use Rattle.machine.specs.declared.Outcome.{Outcome}
use Rattle.machine.specs.Outcome.{refused}
use Rattle.words.specs.Words.{record_of}
use Rattle.words.specs.Untyped.{untyped}
use Rattle.words.specs.Put.{put}

-- MODEL R10 and X14: a call that tests the record: refused with 10 where a word is above what a record by value can have, else as
-- by value on the record that the words hold, which tests the other fields
abbrev pub call_of : (Machine → Outcome) → List ℕ → Outcome
call_of f s = cond (untyped s) (refused FieldTooLarge (record_of s)) (f (record_of s))

-- MODEL X14: an access from inside or outside, a tick or a member, made in the words: the answer, the record that they then hold,
-- and each word; where it is refused, every word stays
pub record Called (o : Outcome) (before : List ℕ) (answer : Answer) (after : List ℕ) : Type 0 where
  pub answered : answer ≡ o.answer
  pub holds : record_of after ≡ o.machine
  pub words : after ≡ cond (is_refused o.answer) before (put o.machine before)
