-- The list of earlier records, as the words of the undo list stand for it.
use Rattle.std.specs.Prelude.{ℕ, cond, List, [], ◌∷◌, take}
use Rattle.answer.specs.declared.Answer.{Answer}
use Rattle.answer.specs.Refused.{is_refused}
use Rattle.undo_words.specs.declared.Entry.{Entry}
use Rattle.undo_words.specs.Journal.{capacity, entries}
use Rattle.machine.specs.declared.Machine.{Machine}
use Rattle.machine.specs.declared.Outcome.{Outcome}
use Rattle.undo.specs.declared.Undo.{Undo}
use Rattle.undo.specs.Undo.{undone}
use Rattle.undo_list.specs.History.{History, Response}

-- MODEL H8: the records before the commands of which these are kept, the latest first, where this is the record after them
unfoldable pub earlier_by : List Entry → Machine → List Machine
earlier_by [] m = []
earlier_by (e ∷ es) m = undone e.undo m ∷ earlier_by es (undone e.undo m)

-- MODEL H9: a record, and the earlier ones that the words of an undo list stand for
abbrev pub history_by : Machine → List ℕ → History
history_by m words = record { machine = m; earlier = earlier_by (entries words) m }

-- MODEL H9: an outcome, and the words of the undo list afterwards
abbrev pub response_by : Outcome → List ℕ → Response
response_by o words = record { answer = o.answer; left = history_by o.machine words }

-- MODEL H2 and H9: the entries after a command of which this is kept, with a tag, unless it was refused
abbrev pub noted : Answer → Undo → ℕ → List Entry → List Entry
noted a u tag es = cond (is_refused a) es (take capacity (record { undo = u; tag = tag } ∷ es))
