-- What each command puts into the words of the undo list.
use Rattle.std.specs.Prelude.{ℕ, cond, List, [], ◌≡◌, Result, Ok, Err}
use Rattle.answer.specs.declared.Refusal.{Refusal}
use Rattle.access.specs.declared.Said.{Said}
use Rattle.access.specs.InParts.{InParts}
use Rattle.answer.specs.declared.Answer.{Answer}
use Rattle.answer.specs.Refused.{is_refused}
use Rattle.command.specs.declared.Command.{Command}
use Rattle.undo_words.specs.declared.Entry.{Entry}
use Rattle.undo_words.specs.Journal.{entries, rest}
use Rattle.undo_list.specs.History.{listing}
use Rattle.undo_list.specs.Words.{history_by, response_by, noted}
use Rattle.machine.specs.declared.Machine.{Machine}
use Rattle.machine.specs.declared.Outcome.{Outcome}
use Rattle.rules.specs.declared.Instruction.{Instruction}
use Rattle.rules.specs.Step.{step_decoded}
use Rattle.undo.specs.Undo.{unchanged, held, change_by, change_decoded, undo_of}
use Rattle.execute.specs.Execute.{obey}

-- MODEL H1 to H5, H8 and X10: the entries after a command to the record m that answers a: of a listed one what it may have
-- changed, with tag 0; those that stay keep their tags
unfoldable pub entries_after : Result Command Refusal → Machine → Answer → List Entry → List Entry
entries_after (Ok Command.End) m a es = es
entries_after (Ok (Command.Set f v)) m a es = cond (is_refused a) es []
entries_after (Ok (Command.Level l)) m a es = noted a (undo_of unchanged m) 0 es
entries_after (Ok (Command.Access w x)) m a es = noted a (undo_of (change_by w x m) m) 0 es
entries_after (Ok (Command.Read o)) m a es = es
entries_after (Ok (Command.Write o x)) m a es = noted a (undo_of (held 0x34 m.settings.cnten) m) 0 es
entries_after (Ok (Command.Tick p)) m a es = noted a (undo_of (held 0x7F m.values.instructions) m) 0 es
entries_after (Ok Command.Back) m a es = rest es
entries_after (Ok (Command.Member d)) m a es = noted a (undo_of (held 0x8C m.values.pmsicr) m) 0 es
entries_after (Err n) m a es = es

-- MODEL X10: a command to the record m, and the words of the undo list before and after it: they stand for what `obey` says, by
-- the entries of H8
pub record Executed (c : Result Command Refusal) (m : Machine) (o : Outcome) (words words' : List ℕ) : Type 0 where
  pub obeyed : response_by o words' ≡ obey c (history_by m words)
  pub kept : entries words' ≡ entries_after c m o.answer (entries words)

-- MODEL X4 and X10: an access with the counters lent, and the words of the undo list before and after it
pub record Accessed (i : Instruction) (x : ℕ) (m : Machine) (said : Said) (after words words' : List ℕ) : Type 0 where
  pub parts : InParts (step_decoded i x m) (change_decoded i x m) said after
  pub listed : response_by (step_decoded i x m) words' ≡ listing (step_decoded i x m) (history_by m words)
  pub kept : entries words' ≡ noted said.answer (undo_of said.change m) 0 (entries words)
