-- The words after what sets fields: the fresh record, the set and level commands, and the step back.
use Rattle.std.specs.Prelude.{ℕ, cond, List, ◌≡◌, set}
use Rattle.answer.specs.declared.Answer.{Answer}
use Rattle.answer.specs.Refused.{is_refused}
use Rattle.machine.specs.declared.Machine.{Machine}
use Rattle.machine.specs.declared.Outcome.{Outcome}
use Rattle.words.specs.Words.{record_of, level_word}
use Rattle.words.specs.Put.{put}

-- MODEL F20, J4 and X14: the words after a set command that is not refused: word f holds the value, and PMSICR_EL1 (8C) is what
-- it is in the record afterwards
abbrev pub words_set : ℕ → ℕ → Machine → List ℕ → List ℕ
words_set f v m s = set (set s f v) 0x8C m.values.pmsicr

-- MODEL F20 and X14: the words after a level command that is not refused
abbrev pub words_levelled : Machine → List ℕ → List ℕ
words_levelled m s = set s level_word m.level

-- MODEL H8 and X14: the words after a step back that is not refused: what calls change, and the level
abbrev pub words_back : Machine → List ℕ → List ℕ
words_back m s = set (put m s) level_word m.level

-- MODEL X14: a command that does not test the record, made in the words: the answer, the record that they then hold, and each
-- word, which stays where the command is refused
pub record Made (o : Outcome) (changed : Machine → List ℕ → List ℕ) (before : List ℕ) (answer : Answer) (after : List ℕ)
    : Type 0 where
  pub answered : answer ≡ o.answer
  pub holds : record_of after ≡ o.machine
  pub words : after ≡ cond (is_refused answer) before (changed o.machine before)
