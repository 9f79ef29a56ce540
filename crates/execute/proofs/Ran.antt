-- A command run by the code, an access with the counters lent or another command by value, does what the definition says.
use Prim.Native.Nat.{ℕ}
use mathlib.Core.List.{List}
use mathlib.Core.Path.{◌≡◌, sym, ◌∙◌, ap}
use Rattle.std.specs.Prelude.{Result, Ok}
use Rattle.answer.specs.declared.Refusal.{Refusal}
use Rattle.access.specs.declared.Said.{Said}
use Rattle.access.specs.InParts.{InParts}
use Rattle.access.proofs.Decoded.{by_word, whole-by-word, parts-by-word}
use Rattle.answer.specs.declared.Answer.{Answer}
use Rattle.command.specs.declared.Command.{Command}
use Rattle.execute.specs.Execute.{obey}
use Rattle.undo_list.specs.History.{listing}
use Rattle.execute.specs.Words.{entries_after, Accessed}
use Rattle.undo_words.specs.Journal.{entries}
use Rattle.undo_list.specs.Words.{history_by, response_by, noted}
use Rattle.undo_list.proofs.Noted.{listed}
use Rattle.machine.specs.declared.Machine.{Machine}
use Rattle.machine.specs.declared.Outcome.{Outcome}
use Rattle.machine.specs.Machine.{machine_of}
use Rattle.machine.specs.Outcome.{says}
use Rattle.rules.specs.declared.Instruction.{Instruction}
use Rattle.rules.specs.Step.{step_decoded}
use Rattle.rules.specs.Word.{decode}
use Rattle.undo.specs.Undo.{change_decoded, undo_of, Typed}
use Rattle.undo.proofs.Steps.{step-taken-back}
use Rattle.execute.proofs.Taken.{step_stays}

-- an access with the counters lent, by what is kept of it
pub access-listed :
    (i : Instruction) (x : ℕ) (r : Machine) → Typed r.counters → {said : Said} {after : List ℕ}
    → InParts (step_decoded i x r) (change_decoded i x r) said after
    → (words words' : List ℕ)
    → (tag : ℕ) → entries words' ≡ noted said.answer (undo_of said.change r) tag (entries words)
    → response_by (step_decoded i x r) words' ≡ listing (step_decoded i x r) (history_by r words)
access-listed i x r typed l words words' tag e =
    listed r (step_decoded i x r) (step_stays r i x) words words' (undo_of (change_decoded i x r) r) tag
    (step-taken-back r typed i x) (e ∙ (λ k. noted (l.answer k) (undo_of (l.change k) r) tag (entries words)))

-- the answer, the record and the words of the undo list after the command c on the record m, before which the words were `words`
module _ (c : Result Command Refusal) (m : Machine) (words : List ℕ) (a : Answer) (next : Machine) (words' : List ℕ) where
  -- of an access, by what was said and the counters that were lent
  pub access-ran :
      (w x : ℕ) (i : Instruction) (said : Said) (counters left : List ℕ) → c ≡ Ok (Command.Access w x) → i ≡ decode w
      → Accessed i x m said counters words left
      → a ≡ said.answer
      → next ≡ machine_of m.level m.settings m.events counters said.values
      → words' ≡ left
      → response_by (says a next) words' ≡ obey c (history_by m words)
  unfolding obey
  access-ran w x i said counters left p e l q r t =
      let ran = whole-by-word i w x m e said counters l.parts in
      let same = ap (λ o. o.0) (by_word i w x m e) in
      (λ k. response_by (says (q k) (r k)) (t k))
      ∙ ap (λ o. response_by o left) (ran ∙ sym same)
      ∙ l.listed
      ∙ ap (λ o. listing o (history_by m words)) same
      ∙ sym (ap (λ d. obey d (history_by m words)) p)

  -- the words then hold what is kept of the access that the word makes
  pub access-kept :
      (w x : ℕ) (i : Instruction) (said : Said) (counters left : List ℕ) → i ≡ decode w
      → Accessed i x m said counters words left
      → entries left ≡ entries_after (Ok (Command.Access w x)) m said.answer (entries words)
  unfolding entries_after
  access-kept w x i said counters left e l =
      l.kept
      ∙ ap (λ k. noted said.answer (undo_of k m) 0 (entries words)) (parts-by-word i w x m e said counters l.parts).change

  -- of another command, by its outcome
  pub other-ran :
      (d : Result Command Refusal) (o : Outcome) (left : List ℕ) → c ≡ d → response_by o left ≡ obey d (history_by m words) → a
      ≡ o.answer
      → next ≡ o.machine → words' ≡ left
      → response_by (says a next) words' ≡ obey c (history_by m words)
  other-ran d o left p e q r t =
      (λ k. response_by (says (q k) (r k)) (t k)) ∙ e ∙ sym (ap (λ d. obey d (history_by m words)) p)
