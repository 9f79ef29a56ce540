-- What each command does to the record and to the list of earlier records.
use Rattle.std.specs.Prelude.{ℕ, cond, List, [], ◌∷◌, ltb, eqb, Result, Ok, Err}
use Rattle.answer.specs.declared.Refusal.{Refusal}
use Rattle.answer.specs.declared.Answer.{Answer}
use Rattle.answer.specs.declared.Refusal.TheVariants.{ValueTooLarge}
use Rattle.command.specs.declared.Command.{Command}
use Rattle.fields.specs.Set.{set, set_level}
use Rattle.undo_list.specs.History.{History, Response, listing, emptying, keeping, back_from}
use Rattle.machine.specs.declared.Machine.{Machine}
use Rattle.machine.specs.declared.Outcome.{Outcome}
use Rattle.machine.specs.Outcome.{says, refused}
use Rattle.rules.specs.Step.{step}
use Rattle.rules.specs.External.{external_read, external_write, tick, member}

-- MODEL R4 and K1: a tick command is refused with 4 where its flag exceeds 1
unfoldable pub tick_command : ℕ → Machine → Outcome
tick_command p m = cond (ltb 1 p) (refused ValueTooLarge m) (tick (eqb p 1) m)

-- MODEL S1 and H1 to H6: what a command answers and does
unfoldable pub obey : Result Command Refusal → History → Response
obey (Ok Command.End) k = keeping (says Answer.End k.machine) k
obey (Ok (Command.Set f v)) k = emptying (set f v k.machine) k
obey (Ok (Command.Level l)) k = listing (set_level l k.machine) k
obey (Ok (Command.Access w x)) k = listing (step w x k.machine) k
obey (Ok (Command.Read o)) k = keeping (external_read o k.machine) k
obey (Ok (Command.Write o x)) k = listing (external_write o x k.machine) k
obey (Ok (Command.Tick p)) k = listing (tick_command p k.machine) k
obey (Ok Command.Back) k = back_from k.machine k.earlier
obey (Ok (Command.Member d)) k = listing (member d k.machine) k
obey (Err n) k = keeping (refused n k.machine) k

-- MODEL S2: what commands answer, and record and list after them
pub record Performed : Type 0 where
  pub answers : List Answer
  pub left : History

-- MODEL S2: commands run one after another, each on the record and the list that the one before it left
unfoldable pub perform : List (Result Command Refusal) → History → Performed
perform [] k = record { answers = []; left = k }
perform (c ∷ cs) k =
    let o = obey c k in
    let then = perform cs o.left in
    record { answers = o.answer ∷ then.answers; left = then.left }
