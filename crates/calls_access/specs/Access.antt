-- An access made in the words of a caller's, and what is kept of it.
use Rattle.std.specs.Prelude.{ℕ, List, ◌≡◌, length}
use Rattle.machine.specs.declared.Outcome.{Outcome}
use Rattle.machine.specs.declared.Settings.{Settings}
use Rattle.machine.specs.declared.Values.{Values}
use Rattle.undo.specs.declared.Change.{Change}
use Rattle.words.specs.Words.{word, settings_of, values_of, word_count}
use Rattle.words.specs.Call.{Called}
use Rattle.calls_access.specs.declared.Acted.{Acted}

-- MODEL X13: the words of a machine, and settings and values that were taken from them
pub record Taken (words : List ℕ) (s : Settings) (v : Values) : Type 0 where
  pub long : length words ≡ word_count
  pub settings : s ≡ settings_of (word words)
  pub values : v ≡ values_of (word words)

-- MODEL H8 and X14: an outcome made in the words, and what is kept of it
pub record Did (o : Outcome) (kept : Change) (before : List ℕ) (acted : Acted) (after : List ℕ) : Type 0 where
  pub called : Called o before acted.answer after
  pub change : acted.change ≡ kept
