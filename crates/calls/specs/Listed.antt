-- What calls do to an undo list in the caller's words.
use Rattle.std.specs.Prelude.{ℕ, cond, List, [], ◌≡◌}
use Rattle.answer.specs.Refused.{is_refused}
use Rattle.calls_fields.specs.Fields.{words_back}
use Rattle.undo_words.specs.Journal.{entries, rest}
use Rattle.undo_list.specs.History.{Response, listing, emptying, back_from}
use Rattle.undo_list.specs.Words.{earlier_by, history_by, response_by, noted}
use Rattle.machine.specs.declared.Machine.{Machine}
use Rattle.machine.specs.declared.Outcome.{Outcome}
use Rattle.reply.specs.declared.Reply.{Reply}
use Rattle.reply.specs.Reply.{reply_of}
use Rattle.undo.specs.declared.Change.{Change}
use Rattle.undo.specs.Undo.{undo_of}
use Rattle.words.specs.Words.{record_of}

-- MODEL H2, H8 and X16: a call to the record m is listed unless it is refused, by what is kept of it
pub record Listed (o : Outcome) (change : Change) (m : Machine) (list list' : List ℕ) : Type 0 where
  pub history : response_by o list' ≡ listing o (history_by m list)
  pub kept : entries list' ≡ noted o.answer (undo_of change m) 0 (entries list)

-- MODEL H5 and X16: a set empties the list unless it is refused
pub record Emptied (o : Outcome) (m : Machine) (list list' : List ℕ) : Type 0 where
  pub history : response_by o list' ≡ emptying o (history_by m list)
  pub kept : entries list' ≡ cond (is_refused o.answer) (entries list) []

-- MODEL H1, H6 and X16: the step back from the record that words hold
abbrev pub step_back : List ℕ → List ℕ → Response
step_back s list = back_from (record_of s) (earlier_by (entries list) (record_of s))

-- MODEL X16: the step back made in the words: its reply, the record and the list that the words then stand for, each word, and
-- the entries without the latest
pub record SteppedBack (before list : List ℕ) (r : Reply) (after list' : List ℕ) : Type 0 where
  pub reply : r ≡ reply_of (step_back before list).answer
  pub history : history_by (record_of after) list' ≡ (step_back before list).left
  pub words :
      after
      ≡ cond (is_refused (step_back before list).answer) before (words_back (step_back before list).left.machine before)
  pub kept : entries list' ≡ rest (entries list)
