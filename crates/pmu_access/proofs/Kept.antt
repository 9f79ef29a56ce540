-- What is kept of an access on words takes it back.
use Prim.Native.Nat.{ℕ, ◌+◌, ◌^◌, ◌<◌}
use mathlib.Core.Bool.{Bool, true, false}
use mathlib.Core.List.{List}
use mathlib.Core.Path.{◌≡◌, refl, ◌∙◌, subst}
use native.Mathlib.Omega.{arith}
use borrow.Author.Tests.{leb-true, leb-false}
use lib.Dec.{leb}
use lib.ListN.{get_or, drop, length-take}
use lib.Seq.{get_or-take, get_or-drop}
use Rattle.std.proofs.lemmas.List.{get_or_past}
use Rattle.answer.specs.declared.Answer.{Answer}
use Rattle.calls.specs.Listed.{Listed}
use Rattle.calls.proofs.Listed.{listed-call}
use Rattle.execute.proofs.Taken.{step_stays}
use Rattle.undo_words.specs.Journal.{entries}
use Rattle.undo_list.specs.Words.{noted}
use Rattle.machine.specs.declared.Machine.{Machine}
use Rattle.machine.specs.declared.Outcome.{Outcome}
use Rattle.rules.specs.Step.{decide, step}
use Rattle.rules.specs.Word.{decode}
use Rattle.undo.specs.declared.Change.{Change}
use Rattle.undo.specs.Undo.{change_by, undo_of, Typed}
use Rattle.undo.proofs.Steps.{step-taken-back}
use Rattle.words.specs.Words.{counters_of}

-- the event counters fit their type where all words do
pub counters-typed : (s : List ℕ) → Typed s → Typed (counters_of s)
counters-typed s fits m = go (leb 31 m) refl
  where
    go : (b : Bool) → leb 31 m ≡ b → get_or (counters_of s) m 0 < 2 ^ 64
    go true e =
        let past : get_or (counters_of s) m 0 ≡ 0 =
        get_or_past (counters_of s) m 0 (omega (arith, leb-true 31 m e, length-take 31 (drop 0x60 s))) in
        omega (arith, past)
    go false e =
        let here : get_or (counters_of s) m 0 ≡ get_or s (0x60 + m) 0 =
        get_or-take 31 (drop 0x60 s) m 0 (leb-false 31 m e) ∙ get_or-drop 0x60 s m 0 in
        omega (arith, here, fits (0x60 + m))

-- an access, with the word taken apart
pub access-listed :
    (w x : ℕ) (m : Machine) → Typed m.counters → (p : Outcome) → step w x m ≡ p
    → (a : Answer) → a ≡ (step w x m).answer
    → (k : Change) → k ≡ change_by w x m
    → (list list' : List ℕ) → entries list' ≡ noted a (undo_of k m) 0 (entries list)
    → Listed p (change_by w x m) m list list'
unfolding step decide
access-listed w x m typed p same a ea k ek list list' e =
    subst (λ (o : Outcome). Listed o (change_by w x m) m list list') same
    (listed-call m (step w x m) (change_by w x m) list list' (step_stays m (decode w) x) (step-taken-back m typed (decode w) x)
    a ea k ek e)
