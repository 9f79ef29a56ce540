-- Commands run by the code itself, and the claim on steps back of it: runs of calls of which nothing is known but the contract of
-- each. Which calls these are says `Call`, in proofs/Calls.antt, since a contract as the check takes it from the source can be
-- named there only.
use Rattle.std.specs.Prelude.{ℕ, ◌-◌, ◌≤◌, true, List, [], ◌∷◌, ◌≡◌, take, replicate, Result}
use Rattle.answer.specs.declared.Refusal.{Refusal}
use Rattle.answer.specs.declared.Answer.{Answer}
use Rattle.command.specs.declared.Command.{Command}
use Rattle.execute.specs.Execute.{perform}
use Rattle.undo_list.specs.Words.{history_by}
use Rattle.undo_words.specs.Journal.{capacity}
use Rattle.machine.specs.declared.Machine.{Machine}
use Rattle.undo_claims.specs.Back.{steps, forward, steps_back}

-- MODEL H10: that a call for this command, from this record and these words of the undo list, may give this answer, and leave
-- this record and these words
abbrev pub MayGive : Type 2
MayGive = Result Command Refusal → Machine → List ℕ → Answer → Machine → List ℕ → Type 1

-- MODEL H10: one call after another, each on the record and the words that the one before it left: the commands, the record and
-- the words at the start, the answers in order, and the record and the words at the end
pub data Run (call : MayGive) : List (Result Command Refusal) → Machine → List ℕ → List Answer → Machine → List ℕ → Type 1 where
  none : {m : Machine} {words : List ℕ} → Run call [] m words [] m words
  next :
      {c : Result Command Refusal} {cs : List (Result Command Refusal)} {m left after : Machine} {words between words' : List ℕ}
      {answer : Answer} {answers : List Answer}
      → call c m words answer left between
      → Run call cs left between answers after words'
      → Run call (c ∷ cs) m words (answer ∷ answers) after words'

-- MODEL S2 and H10: a run of calls answers what the commands, run by the definition, answer, and leaves a record and words that
-- stand for what they leave
abbrev pub CallsPerform : MayGive → Type 1
CallsPerform call =
    (cs : List (Result Command Refusal)) (m after : Machine) (words words' : List ℕ) (answers : List Answer)
    → Run call cs m words answers after words'
    → (answers ≡ (perform cs (history_by m words)).answers) × (history_by after words' ≡ (perform cs (history_by m words)).left)

-- MODEL H7 and H10: `ThereAndBack` of specs/Back, of runs of calls: as many calls for a step back as calls were listed all answer
-- `ok`, and leave the record that was there before, and words that stand for its list as far as it can't have dropped off
abbrev pub CallsThereAndBack : MayGive → Type 1
CallsThereAndBack call =
    (cs : List (Result Command Refusal)) (m after back : Machine) (words words' words'' : List ℕ) (answers backs : List Answer)
    → let n = steps cs (history_by m words) in
    Run call cs m words answers after words'
    → forward cs (history_by m words) ≡ true
    → n ≤ capacity
    → Run call (steps_back n) after words' backs back words''
    → (backs ≡ replicate n Answer.Ok)
    × (back ≡ m)
    × (take (capacity - n) (history_by back words'').earlier ≡ take (capacity - n) (history_by m words).earlier)
