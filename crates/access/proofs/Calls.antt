-- Noninterference of the code, as specs/Calls.antt states it: by one induction of any step whose calls can only give what the
-- definition `step` says, and so of `access::step`. All that is known of a call of `access::step` is its contract, as the check
-- takes it from the source: were it weaker, or had it a `requires`, `call-exact` would be refused.
use Prim.Native.Nat.{ℕ}
use mathlib.Core.Bool.{Bool}
use mathlib.Core.List.{List, [], ◌∷◌}
use mathlib.Core.Logic.{∥∥₁_elim, ∥∥₁_map}
use mathlib.Core.HLevel.{×_prop}
use mathlib.Core.Path.{◌≡◌, refl, sym, ◌∙◌, ap, subst, subst₂}
use seplogic.Bi.Sat
use seplogic.Bi.Sat.{Sat}
use base.Logic.{Sat_exists, emp}
use base.Stored.{Coded-set}
use borrow.Fn.World.{World}
use contract.Monad.{fact, fact_i}
use Rattle.answer.specs.declared.Answer.{Answer}
use Rattle.answer.specs.contracts.Answer as N'
use Rattle.machine.specs.declared.Machine.{Machine}
use Rattle.machine.specs.declared.Settings.{Settings}
use Rattle.machine.specs.contracts.Machine as M'
use Rattle.rules.specs.Isolation.{SameExcept, Kept, Named, Start, Isolated, Claim}
use Rattle.rules.proofs.Isolation.{noninterference}
use Rattle.rules.specs.Step.{Access, step, access, run}
use Rattle.access.specs.Calls.{Holds, Obeyed, Reference, MayGive, Calls, none, next, CallsRun, AnsweredAlike, CallsClaim}
use Rattle.access.specs.Calls.{CallsNoninterference}
use Rattle.access.specs.contracts.step as by_value

-- what a contract without a `requires` asks
pub asked : (m : World) → Holds m (emp m.𝓤)
unfolding Sat
asked m = ∣ (m.𝓤.one, tt) ∣₁

-- the fact that an `ensures` states
pub said : (m : World) (φ : Type 0) → Holds m (fact m.𝓤 φ) → ∥ φ ∥₁
said m φ s = ∥∥₁_map (Sat_exists m.𝓤 (λ (_ : φ). emp m.𝓤) s) (λ t. t.0)

-- and that it states a fact which is true
pub stated : (m : World) (φ : Type 0) → φ → Holds m (emp m.𝓤) → Holds m (fact m.𝓤 φ)
stated m φ t s = Sat.mono m.𝓤.op (fact_i m.𝓤 φ (emp m.𝓤) t) s

-- a reference, where any will do
abbrev pub any : Reference
any = record { lifetime = []; ptr = (0, 0); name = 0 }

-- the answer and the record that the definition `step` says
abbrev pub OfStep : ℕ → ℕ → Machine → Answer → Machine → Type 0
OfStep w x r answer after = (answer ≡ (step w x r).answer) × (after ≡ (step w x r).machine)

-- a call can give no answer and no record but those
abbrev pub Only : MayGive → Type 1
Only call =
    (w x : ℕ) (r : Machine) (answer : Answer) (after : Machine)
    → call w x r answer after
    → ∥ OfStep w x r answer after ∥₁

-- and can give those
pub record Exact (call : MayGive) : Type 1 where
  pub only : Only call
  pub may : (w x : ℕ) (r : Machine) → call w x r (step w x r).answer (step w x r).machine

module _ (call : MayGive) (only : Only call) where
  -- the equations, not truncated: an answer and a record are equal in one way at most
  gives : (w x : ℕ) (r : Machine) (answer : Answer) (after : Machine) → call w x r answer after → OfStep w x r answer after
  gives w x r answer after c =
      ∥∥₁_elim
      (only w x r answer after c)
      (×_prop (Coded-set (N'.the_row).coded answer _) (Coded-set (M'.the_row).coded after _))
      (λ e. e)

  -- what the calls answer and leave is what `run` says
  calls-run :
      {accesses : List Access} {r after : Machine} {answers : List Answer} → Calls call accesses r answers after
      → (answers ≡ (run accesses r).answers) × (after ≡ (run accesses r).machine)
  unfolding run access
  calls-run none = (refl, refl)
  calls-run (next {rest = rest} c more) =
      let e = gives _ _ _ _ _ c in
      let ih = calls-run more in (
        (λ i. e.0 i ∷ (ih.0 ∙ ap (λ r. (run rest r).answers) e.1) i),
        ih.1 ∙ ap (λ r. (run rest r).machine) e.1,
      )

  pub only-calls-run : CallsRun call
  only-calls-run accesses r after answers c = calls-run c

  calls-isolated :
      {x : Named} {accesses : List Access} {r₁ r₂ after₁ after₂ : Machine} {answers₁ answers₂ : List Answer}
      → Isolated x accesses r₁ r₂
      → Calls call accesses r₁ answers₁ after₁
      → Calls call accesses r₂ answers₂ after₂
      → AnsweredAlike x r₁ r₂ after₁ after₂ answers₁ answers₂
  calls-isolated {x} {accesses} {r₁} {r₂} i c d =
      let p = calls-run c in
      let q = calls-run d in
      record {
        answers = p.0 ∙ i.answers ∙ sym q.0;
        same = subst₂ (λ (a b : Machine). SameExcept x a b) (sym p.1) (sym q.1) i.same;
        kept₁ = subst (λ (a : Machine). Kept x r₁ a) (sym p.1) i.kept₁;
        kept₂ = subst (λ (a : Machine). Kept x r₂ a) (sym q.1) i.kept₂;
      }

  calls-claim :
      (top : ℕ) (named : Settings → Named) (when : Settings → Bool) → Claim Start top named when
      → CallsClaim call top named when
  calls-claim top named when claim r₁ r₂ accesses s₁ s₂ w l e after₁ after₂ answers₁ answers₂ c d =
      calls-isolated (claim r₁ r₂ accesses s₁ s₂ w l e) c d

  pub only-noninterference : CallsNoninterference call
  only-noninterference =
      record {
        hpmn = calls-claim _ _ _ noninterference.hpmn;
        pmuacr = calls-claim _ _ _ noninterference.pmuacr;
        f0 = calls-claim _ _ _ noninterference.f0;
        sampling = calls-claim _ _ _ noninterference.sampling;
      }

module _ (call : MayGive) (exact : Exact call) where
  -- every list has a run of calls from every record, the one that `run` says: the claim is of something
  pub exact-run :
      (accesses : List Access) (r : Machine)
      → Calls call accesses r (run accesses r).answers (run accesses r).machine
  unfolding run access
  exact-run [] r = none
  exact-run (a ∷ rest) r = next (exact.may _ _ _) (exact-run rest _)

  pub exact-calls-run : CallsRun call
  exact-calls-run = only-calls-run call exact.only

  pub exact-noninterference : CallsNoninterference call
  exact-noninterference = only-noninterference call exact.only

-- a call of `access::step`: a result of which its contract holds, as the source states it
abbrev pub Call : World → MayGive
Call m w x r answer after =
    Obeyed
    m
    by_value.ended
    (by_value.clauses m.𝓛 m.𝓜.mem m.𝓡.run)
    tt
    (w, (x, (r, tt)))
    (tt, (tt, (tt, tt)))
    (record { answer = answer; machine = after })

call-exact : (m : World) → Exact (Call m)
call-exact m =
    record {
      only = λ w x r answer after c.
          ∥∥₁_map
          (said m (record { answer = answer; machine = after } ≡ step w x r) (c tt (asked m)))
          (λ e. (ap (λ o. o.answer) e, ap (λ o. o.machine) e));
      may = λ w x r g s. stated m (step w x r ≡ step w x r) refl s;
    }

-- the calls of `access::step` answer and leave what `run` says
pub calls-are-run : (m : World) → CallsRun (Call m)
calls-are-run m = exact-calls-run (Call m) (call-exact m)

-- demand 3 of the calls of `access::step`
pub calls-noninterference : (m : World) → CallsNoninterference (Call m)
calls-noninterference m = exact-noninterference (Call m) (call-exact m)
