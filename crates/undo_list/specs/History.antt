-- A record with the list of earlier records, and what a command does to that list.
use Rattle.std.specs.Prelude.{cond, List, [], ◌∷◌, take}
use Rattle.answer.specs.declared.Answer.{Answer}
use Rattle.answer.specs.declared.Refusal.TheVariants.{NothingToUndo}
use Rattle.answer.specs.Refused.{is_refused}
use Rattle.undo_words.specs.Journal.{capacity}
use Rattle.machine.specs.declared.Machine.{Machine}
use Rattle.machine.specs.declared.Outcome.{Outcome}
use Rattle.machine.specs.Machine.{fresh}
use Rattle.machine.specs.Outcome.{says, refused}

-- MODEL H1: a record, and the records before the commands that can be taken back, the latest first
pub record History : Type 0 where
  pub machine : Machine
  pub earlier : List Machine

-- MODEL S2 and H1: a session begins with the fresh record, and nothing is listed
abbrev pub begun : History
begun = record { machine = fresh; earlier = [] }

-- MODEL L1 and H1: what a command answers, with record and list afterwards
pub record Response : Type 0 where
  pub answer : Answer
  pub left : History

-- MODEL L1 and H1: an outcome, with the list afterwards
abbrev pub response : Outcome → List Machine → Response
response o h = record { answer = o.answer; left = record { machine = o.machine; earlier = h } }

-- MODEL H3: one record more, and of more than 64 the oldest drops off
unfoldable pub remember : Machine → List Machine → List Machine
remember m h = take capacity (m ∷ h)

-- MODEL H2: a command that is listed, unless it was refused
abbrev pub listing : Outcome → History → Response
listing o k = response o (cond (is_refused o.answer) k.earlier (remember k.machine k.earlier))

-- MODEL H5: a command that empties the list, unless it was refused
abbrev pub emptying : Outcome → History → Response
emptying o k = response o (cond (is_refused o.answer) k.earlier [])

-- MODEL H4: a command that leaves the list alone
abbrev pub keeping : Outcome → History → Response
keeping o k = response o k.earlier

-- MODEL H1 and H6: the latest earlier record comes back; where none is listed, the step back is refused with 18
abbrev pub back_from : Machine → List Machine → Response
back_from m [] = response (refused NothingToUndo m) []
back_from m (e ∷ h) = response (says Answer.Ok e) h
