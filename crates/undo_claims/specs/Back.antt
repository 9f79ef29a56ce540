-- The claim on steps back, about the commands' own definition.
use Rattle.std.specs.Prelude.{ℕ, ◌+◌, ◌-◌, ◌≤◌, Bool, true, false, cond, not, ◌&&◌, List, [], ◌∷◌, ◌≡◌, take, replicate, Result}
use Rattle.std.specs.Prelude.{Ok, Err}
use Rattle.answer.specs.declared.Refusal.{Refusal}
use Rattle.answer.specs.declared.Answer.{Answer}
use Rattle.answer.specs.Refused.{is_refused}
use Rattle.command.specs.declared.Command.{Command}
use Rattle.command.specs.Command.{is_set, is_back}
use Rattle.undo_words.specs.Journal.{capacity}
use Rattle.execute.specs.Execute.{obey, perform}
use Rattle.undo_list.specs.History.{History}

-- MODEL H2: the commands that are listed unless they are refused
abbrev pub is_listed : Result Command Refusal → Bool
is_listed (Ok Command.End) = false
is_listed (Ok (Command.Set f v)) = false
is_listed (Ok (Command.Level l)) = true
is_listed (Ok (Command.Access w x)) = true
is_listed (Ok (Command.Read o)) = false
is_listed (Ok (Command.Write o x)) = true
is_listed (Ok (Command.Tick p)) = true
is_listed (Ok Command.Back) = false
is_listed (Ok (Command.Member d)) = true
is_listed (Err n) = false

-- MODEL H2: the command, which answers a, is listed
abbrev pub lists : Result Command Refusal → Answer → Bool
lists c a = is_listed c && not (is_refused a)

-- MODEL H7: the command, which answers a, is neither a step back nor empties the list
abbrev pub goes_on : Result Command Refusal → Answer → Bool
goes_on c a = not (is_back c) && not (is_set c && not (is_refused a))

-- MODEL H7: how many of the commands are listed
unfoldable pub steps : List (Result Command Refusal) → History → ℕ
steps [] k = 0
steps (c ∷ cs) k =
    let o = obey c k in cond (lists c o.answer) 1 0 + steps cs o.left

-- MODEL H7: none of the commands is a step back or empties the list
unfoldable pub forward : List (Result Command Refusal) → History → Bool
forward [] k = true
forward (c ∷ cs) k =
    let o = obey c k in goes_on c o.answer && forward cs o.left

-- MODEL H7: so many steps back
abbrev pub steps_back : ℕ → List (Result Command Refusal)
steps_back n = replicate n (Ok Command.Back)

-- MODEL H1 and H7: n steps back from k all answer `ok`, and bring back the record of an earlier history, and its list as far as
-- it can't have dropped off meanwhile
pub record BringBack (n : ℕ) (k was : History) : Type 0 where
  pub answers : (perform (steps_back n) k).answers ≡ replicate n Answer.Ok
  pub machine : (perform (steps_back n) k).left.machine ≡ was.machine
  pub earlier : take (capacity - n) (perform (steps_back n) k).left.earlier ≡ take (capacity - n) was.earlier

-- MODEL H7: after commands of which up to 64 are listed, none of them a step back and none that empties the list, as many steps
-- back as were listed bring back what was there before them
abbrev pub ThereAndBack : Type 0
ThereAndBack =
    (cs : List (Result Command Refusal)) (k : History) → forward cs k ≡ true → steps cs k ≤ capacity
    → BringBack (steps cs k) (perform cs k).left k
