-- MODEL R10: commands can't bring it about. It is no answer of any session: the fresh record has no number above its
-- largest, no command makes one that has, and a step back brings back a record that was there before.
use Prim.Native.Nat.{ℕ, zero, suc}
use mathlib.Core.Bool.{false}
use mathlib.Core.List.{List, [], ◌∷◌}
use mathlib.Core.Path.{◌≡◌, refl, ap}
use native.Mathlib.Omega.{arith}
use lib.ListN.{take}
use Rattle.std.specs.Prelude.{Result, Ok, Err}
use Rattle.bits.proofs.Choice.{either}
use Rattle.answer.specs.declared.Answer.{Answer}
use Rattle.answer.specs.declared.Refusal.{Refusal}
use Rattle.answer.specs.declared.Refusal.TheVariants.{FieldTooLarge}
use Rattle.answer.specs.Refused.{is_refused}
use Rattle.command.specs.declared.Command.{Command}
use Rattle.command.specs.Command.{commands_of}
use Rattle.command.proofs.Refusals.{Met, AllMet, all-met}
use Rattle.execute.specs.Execute.{obey, perform}
use Rattle.undo_list.specs.History.{History, Response, begun, remember, listing, emptying, keeping, back_from}
use Rattle.fields.specs.Largest.{largest}
use Rattle.machine.specs.declared.Machine.{Machine}
use Rattle.machine.specs.declared.Outcome.{Outcome}
use Rattle.state.specs.State.{view_of, too_large}
use Rattle.transcript.specs.Session.{answers_in, answers_of}
use Rattle.undo_claims.proofs.Refusal10.{is_refusal10}
use Rattle.undo_claims.proofs.Bounded.{
  Bounded,
  says-bounded,
  set-bounded,
  level-bounded,
  step-bounded,
  read-bounded,
  write-bounded,
  tick-command-bounded,
  member-bounded,
}

-- P holds of every answer
abbrev pub AllOf : (Answer → Type 0) → List Answer → Type 0
AllOf P [] = Unit {0}
AllOf P (a ∷ rest) = P a × AllOf P rest

-- the answer is not refusal 10
abbrev pub NotRefusal10 : Answer → Type 0
NotRefusal10 a = a ≡ Answer.Refused FieldTooLarge → ⊥

not-refusal-10 : (a : Answer) → is_refusal10 a ≡ false → NotRefusal10 a
not-refusal-10 a t e = let z : ◌≡◌ {A = ℕ} 0 1 = cc (ap is_refusal10 e) in omega arith

-- the record does not meet refusal 10
abbrev Fits : Machine → Type 0
Fits m = too_large (view_of m) ≡ false

-- and no record of a list does
abbrev AllFit : List Machine → Type 0
AllFit [] = Unit {0}
AllFit (m ∷ h) = Fits m × AllFit h

take-fits : (n : ℕ) (h : List Machine) → AllFit h → AllFit (take n h)
take-fits zero h f = tt
take-fits (suc n) [] f = tt
take-fits (suc n) (m ∷ h) f = (f.0, take-fits n h f.1)

-- a command is not refused with 10 for its bytes
abbrev Spares : Refusal → Type 0
Spares r = is_refusal10 (Answer.Refused r) ≡ false

abbrev Sparing : Result Command Refusal → Type 0
Sparing = Met Spares

-- record and list after a command, and its answer
record FitsOn (o : Response) : Type 0 where
  answer : is_refusal10 o.answer ≡ false
  machine : Fits o.left.machine
  earlier : AllFit o.left.earlier

module _ (k : History) (m : Fits k.machine) (h : AllFit k.earlier) where
  keeping-fits : (o : Outcome) → Bounded o → FitsOn (keeping o k)
  keeping-fits o b = record { answer = b.answer; machine = b.machine; earlier = h }

  listing-fits : (o : Outcome) → Bounded o → FitsOn (listing o k)
  unfolding remember
  listing-fits o b =
      record {
        answer = b.answer;
        machine = b.machine;
        earlier = either AllFit (is_refused o.answer) _ _ h (λ e. take-fits 64 (k.machine ∷ k.earlier) (m, h));
      }

  emptying-fits : (o : Outcome) → Bounded o → FitsOn (emptying o k)
  emptying-fits o b =
      record {
        answer = b.answer;
        machine = b.machine;
        earlier = either AllFit (is_refused o.answer) k.earlier [] h (λ e. tt);
      }

  back_fits : (l : List Machine) → AllFit l → FitsOn (back_from k.machine l)
  back_fits [] f = record { answer = refl; machine = m; earlier = tt }
  back_fits (e ∷ l) f = record { answer = refl; machine = f.0; earlier = f.1 }

  obey-fits : (c : Result Command Refusal) → Sparing c → FitsOn (obey c k)
  unfolding obey
  obey-fits (Ok Command.End) e = keeping-fits _ (says-bounded Answer.End k.machine refl m)
  obey-fits (Ok (Command.Set f v)) e = emptying-fits _ (set-bounded k.machine m f v)
  obey-fits (Ok (Command.Level l)) e = listing-fits _ (level-bounded k.machine m l)
  obey-fits (Ok (Command.Access w x)) e = listing-fits _ (step-bounded k.machine m w x)
  obey-fits (Ok (Command.Read o)) e = keeping-fits _ (read-bounded k.machine m o)
  obey-fits (Ok (Command.Write o x)) e = listing-fits _ (write-bounded k.machine m o x)
  obey-fits (Ok (Command.Tick p)) e = listing-fits _ (tick-command-bounded k.machine m p)
  obey-fits (Ok Command.Back) e = back_fits k.earlier h
  obey-fits (Ok (Command.Member d)) e = listing-fits _ (member-bounded k.machine m d)
  obey-fits (Err n) e = keeping-fits _ (says-bounded (Answer.Refused n) k.machine e m)

-- the answers of such commands, from a record and list on that do not meet refusal 10
answers-fit :
    (cs : List (Result Command Refusal)) (k : History) → AllMet Spares cs → Fits k.machine → AllFit k.earlier
    → AllOf NotRefusal10 (perform cs k).answers
unfolding perform
answers-fit [] k f m h = tt
answers-fit (c ∷ cs) k f m h =
    let o = obey c k in
    let w = obey-fits k m h c f.0 in
    (not-refusal-10 o.answer w.answer, answers-fit cs o.left f.1 w.machine w.earlier)

-- whatever the bytes, no answer is refusal 10
pub never-refusal-10 : (s : List ℕ) → AllOf NotRefusal10 (answers_of s)
unfolding answers_in too_large view_of largest
never-refusal-10 s = answers-fit (commands_of s) begun (all-met Spares refl refl refl s) refl tt
