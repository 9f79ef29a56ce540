-- Demand 3 of the code itself: runs of calls of which nothing is known but the contract of each call, and what is claimed of
-- two such runs. Nothing here depends on a proof. A contract as the check takes it from the source can be named in proofs/
-- only, so one definition more is to be read there for each step: `Call`, in proofs/Calls.antt for `access::step`, in
-- proofs/PartsCalls.antt for `access::in_parts`, in proofs/DecodedCalls.antt for `access::in_parts_decoded`, in
-- proofs/Calls.antt of `in_place` for `in_place::step`, and in proofs/AccessCalls.antt of `undo_claims`, with `Access` of its
-- Calls.antt, for `execute::access_decoded`.
use Rattle.std.specs.Prelude.{ℕ, Bool, true, List, [], ◌∷◌, ◌≡◌}
use seplogic.Bi.Sat.{Sat}
use base.Fml.{Lft, GName}
use contract.Lifetimes.{Lfts}
use Rattle.std.specs.Borrow.{Bor, MutBor}
use denote.Triple.Clauses.{Ended, Clauses, Lasts, at_exit}
use denote.Triple.Entry.{Args, Res}
use borrow.Fn.World.{World, Pr}
use Rattle.answer.specs.declared.Answer.{Answer}
use Rattle.machine.specs.declared.Machine.{Machine}
use Rattle.machine.specs.declared.Settings.{Settings}
use Rattle.machine.specs.Machine.{with_level}
use Rattle.rules.specs.Isolation.{SameExcept, Kept, Named, Start, from_levels}
use Rattle.rules.specs.Isolation.{from_hpmn, without_p, instruction_counter, sampling_counter}
use Rattle.rules.specs.Isolation.{hpmn_hides, pmuacr_hides, f0_hides, always}
use Rattle.rules.specs.Step.{Access, run}

-- MODEL M10: an assertion of the logic, in the model m of the logic and of the machine, holds of some resource. Where it
-- states a plain fact, the fact is true
abbrev pub Holds : (m : World) → Pr m → Type 1
Holds m p = Sat m.𝓤.op p

-- MODEL M10: the contract c of a function with the signature T holds of a call: with the arguments a, the result z, and the
-- last values ws of what is lent to it, what the contract ensures holds if what it requires does
abbrev pub Obeyed :
    (m : World) (T : Ended)
    → Clauses m.𝓤 T
    → (κs : Lfts T.signature.lifetimes) (a : Args T.signature κs) (ws : Lasts T κs a)
    → Res T.signature κs
    → Type 1
Obeyed m T c κs a ws z =
    (g : (c κs a).ghost) → Holds m ((c κs a).requires g) → Holds m ((c κs a).ensures g z (at_exit T κs a ws))

-- MODEL M10: a reference that is passed to a call: its lifetime, where it points, and the name under which its value is
-- tracked
pub record Reference : Type 0 where
  pub lifetime : Lft
  pub ptr : ℕ × ℕ
  pub name : GName

-- MODEL M10: the reference, while the value x is behind it and may be changed there
abbrev pub to : {X : Type 0} → Reference → X → MutBor X
to p x = record { ref_ptr = p.ptr; ghost_name = p.name; now = x }

-- MODEL M10: the reference, while the value x is behind it and stays: of such a one no name is tracked
abbrev pub shared : {X : Type 0} → Reference → X → Bor X
shared p x = record { ref_ptr = p.ptr; now = x }

-- MODEL M10: for a step, that a call with this word and this operand, from this record, may give this answer and this record
abbrev pub MayGive : Type 2
MayGive = ℕ → ℕ → Machine → Answer → Machine → Type 1

-- MODEL M2 and M10: one call after another, each on the record that the one before it left, with the level put to the access's
-- own: the accesses, the record at the start, the answers in order, and the record at the end
pub data Calls (call : MayGive) : List Access → Machine → List Answer → Machine → Type 1 where
  none : {r : Machine} → Calls call [] r [] r
  next :
      {a : Access} {rest : List Access} {r left after : Machine} {answer : Answer} {answers : List Answer}
      → call a.word a.operand (with_level a.level r) answer left
      → Calls call rest left answers after
      → Calls call (a ∷ rest) r (answer ∷ answers) after

-- MODEL M10: a run of calls answers and leaves what the list, run by the definition, does. So what is claimed of `run`, as
-- MODEL M11 to M13 and M15 are, holds of calls of the code
abbrev pub CallsRun : MayGive → Type 1
CallsRun call =
    (accesses : List Access) (r after : Machine) (answers : List Answer)
    → Calls call accesses r answers after
    → (answers ≡ (run accesses r).answers) × (after ≡ (run accesses r).machine)

-- MODEL M5, M6 and M10: what `Isolated` of specs/Isolation says of `run`, of two runs of calls: their answers are equal, so
-- are the records after them but for the places named, and each run has kept those
pub record AnsweredAlike (x : Named) (r₁ r₂ after₁ after₂ : Machine) (answers₁ answers₂ : List Answer) : Type 0 where
  pub answers : answers₁ ≡ answers₂
  pub same : SameExcept x after₁ after₂
  pub kept₁ : Kept x r₁ after₁
  pub kept₂ : Kept x r₂ after₂

-- MODEL M10: `Claim` of specs/Isolation, of all runs of calls
abbrev pub CallsClaim : MayGive → ℕ → (Settings → Named) → (Settings → Bool) → Type 1
CallsClaim call top named when =
    (r₁ r₂ : Machine) (accesses : List Access)
    → Start r₁
    → Start r₂
    → when r₁.settings ≡ true
    → from_levels top accesses ≡ true
    → SameExcept (named r₁.settings) r₁ r₂
    → (after₁ after₂ : Machine) (answers₁ answers₂ : List Answer)
    → Calls call accesses r₁ answers₁ after₁
    → Calls call accesses r₂ answers₂ after₂
    → AnsweredAlike (named r₁.settings) r₁ r₂ after₁ after₂ answers₁ answers₂

-- MODEL M7 to M10 and M14: demand 3, whole, of the calls of a step
pub record CallsNoninterference (call : MayGive) : Type 1 where
  pub hpmn : CallsClaim call 1 from_hpmn hpmn_hides
  pub pmuacr : CallsClaim call 0 without_p pmuacr_hides
  pub f0 : CallsClaim call 0 instruction_counter f0_hides
  pub sampling : CallsClaim call 0 sampling_counter always
