-- Commands, and steps back, by calls of the code, as specs/Calls.antt states it. All that is known of a call is the contract of
-- `execute::access_decoded` or `execute::other`, as the check takes it from the source: were one weaker, `does` would be
-- refused.
use Prim.Native.Nat.{ℕ, ◌-◌}
use mathlib.Core.Bool.{false}
use mathlib.Core.HLevel.{×_prop, Σ_set}
use mathlib.Core.List.{List, ◌∷◌, is_set}
use mathlib.Core.Logic.{∥∥₁_elim, ∥∥₁_map, ∥∥₁_prop}
use mathlib.Core.Path.{◌≡◌, refl, ◌∙◌, ap}
use base.Stored.{Coded-set}
use borrow.Fn.World.{World}
use ghost.Sets.{retract_set}
use lib.ListN.{take}
use Rattle.std.specs.Prelude.{Result, Ok}
use Rattle.answer.specs.declared.Refusal.{Refusal}
use Rattle.access.specs.Calls.{Obeyed, Reference, to, shared}
use Rattle.access.specs.InParts.{Stayed, saying_so}
use Rattle.access.proofs.Calls.{asked, said, stated}
use Rattle.answer.specs.declared.Answer.{Answer}
use Rattle.answer.specs.contracts.Answer as N'
use Rattle.command.specs.declared.Command.{Command}
use Rattle.command.specs.Command.{is_access}
use Rattle.execute.specs.Execute.{obey, perform}
use Rattle.undo_list.specs.History.{History, Response}
use Rattle.execute.specs.Words.{Executed, Accessed}
use Rattle.undo_list.specs.Words.{history_by, response_by}
use Rattle.execute.specs.contracts.access_decoded as access'
use Rattle.execute.specs.contracts.other as other'
use Rattle.undo_words.specs.Journal.{capacity}
use Rattle.machine.specs.declared.Machine.{Machine}
use Rattle.machine.specs.Outcome.{says}
use Rattle.machine.specs.contracts.Machine as M'
use Rattle.rules.specs.Word.{decode}
use Rattle.execute.proofs.Ran.{access-ran}
use Rattle.undo.specs.declared.Change.{Change}
use Rattle.undo_claims.specs.Back.{steps, steps_back}
use Rattle.undo_claims.specs.Calls.{MayGive, Run, none, next, CallsPerform, CallsThereAndBack}
use Rattle.undo_claims.proofs.ThereAndBack.{there_and_back}

-- a call of `execute::other`
abbrev pub Other : World → MayGive
Other w c m words answer left between =
    (l : Reference)
    × Obeyed
    w
    other'.ended
    (other'.clauses w.𝓛 w.𝓜.mem w.𝓡.run)
    (l.lifetime, tt)
    (c, (m, (to l words, tt)))
    (tt, (tt, (between, tt)))
    (says answer left)

-- a call of `execute::access_decoded` with the instruction that the word is, and the parts of the record
abbrev pub Access : World → ℕ → ℕ → Machine → List ℕ → Answer → Machine → List ℕ → Type 1
Access w word x m words answer left between =
    (p : Reference)
    × (q : Reference)
    × (l : Reference)
    × (k : Change)
    × Stayed m left
    × Obeyed
    w
    access'.ended
    (access'.clauses w.𝓛 w.𝓜.mem w.𝓡.run)
    (p.lifetime, (q.lifetime, (l.lifetime, tt))) (
      to p m.counters,
      (shared q m.events, (m.settings, (m.level, (m.values, (decode word, (x, (to l words, tt))))))),
    )
    (left.counters, (tt, (tt, (tt, (tt, (tt, (tt, (between, tt))))))))
    (saying_so answer left k)

-- a call for a command: of `execute::access_decoded` for an access, of `execute::other` for any other
pub data Call (w : World) : Result Command Refusal → Machine → List ℕ → Answer → Machine → List ℕ → Type 1 where
  access :
      {word x : ℕ} {m left : Machine} {words between : List ℕ} {answer : Answer}
      → Access w word x m words answer left between
      → Call w (Ok (Command.Access word x)) m words answer left between
  other :
      {c : Result Command Refusal} {m left : Machine} {words between : List ℕ} {answer : Answer}
      → is_access c ≡ false
      → Other w c m words answer left between
      → Call w c m words answer left between

module _ (w : World) where
  -- a call does what the definition says
  Does : Result Command Refusal → Machine → List ℕ → Answer → Machine → List ℕ → Type 0
  Does c m words answer left between = ∥ response_by (says answer left) between ≡ obey c (history_by m words) ∥₁

  other-does :
      (c : Result Command Refusal) → is_access c ≡ false → (m : Machine) (words : List ℕ) (answer : Answer) (left : Machine)
      (between : List ℕ)
      → Other w c m words answer left between
      → Does c m words answer left between
  unfolding Does
  other-does c n m words answer left between call =
      ∥∥₁_map
      (said w (Executed c m (says answer left) words between) (call.1 tt (stated w (is_access c ≡ false) n (asked w))))
      (λ e. e.obeyed)

  access-does :
      (word x : ℕ) (m : Machine) (words : List ℕ) (answer : Answer) (left : Machine) (between : List ℕ)
      → Access w word x m words answer left between
      → Does (Ok (Command.Access word x)) m words answer left between
  unfolding Does
  access-does word x m words answer left between call =
      ∥∥₁_map
      (said w (Accessed (decode word) x m (saying_so answer left call.3) left.counters words between) (call.5 tt (asked w)))
      (λ a. access-ran (Ok (Command.Access word x)) m words answer left between word x (decode word) _ _ _ refl refl a refl
      call.4 refl)

  does :
      {c : Result Command Refusal} {m left : Machine} {words between : List ℕ} {answer : Answer}
      → Call w c m words answer left between
      → Does c m words answer left between
  does (access call) = access-does _ _ _ _ _ _ _ call
  does (other n call) = other-does _ n _ _ _ _ _ call

  -- so a run of calls answers and leaves what the commands, run by the definition, do
  Performs : List (Result Command Refusal) → Machine → List ℕ → List Answer → Machine → List ℕ → Type 0
  Performs cs m words answers left words' =
      (answers ≡ (perform cs (history_by m words)).answers) × (history_by left words' ≡ (perform cs (history_by m words)).left)

  performs :
      {cs : List (Result Command Refusal)} {m left : Machine} {words words' : List ℕ} {answers : List Answer}
      → Run (Call w) cs m words answers left words'
      → ∥ Performs cs m words answers left words' ∥₁
  unfolding perform Does Performs
  performs none = ∣ (refl, refl) ∣₁
  performs (next {c = c} {cs = cs} call more) =
      ∥∥₁_elim (does call) ∥∥₁_prop
      (λ e.
      ∥∥₁_map (performs more)
      (λ p. (
        (λ i. (e i).answer ∷ (p.0 ∙ ap (λ (o : Response). (perform cs o.left).answers) e) i),
        p.1 ∙ ap (λ (o : Response). (perform cs o.left).left) e,
      )))

  -- a record and a list are equal in one way at most
  history-set : IsSet History
  history-set =
      retract_set (λ (k : History). (k.machine, k.earlier)) (λ p. record { machine = p.0; earlier = p.1 }) (λ k. refl)
      (Σ_set (Coded-set (M'.the_row).coded) (λ m. is_set (Coded-set (M'.the_row).coded)))

  pub calls-perform : CallsPerform (Call w)
  unfolding Performs
  calls-perform cs m left words words' answers run =
      ∥∥₁_elim (performs run)
      (×_prop (is_set (Coded-set (N'.the_row).coded) answers _) (history-set _ _))
      (λ p. p)

  pub calls-there-and-back : CallsThereAndBack (Call w)
  calls-there-and-back cs m left back words words' words'' answers backs there f l run =
      let n = steps cs (history_by m words) in
      let t = (calls-perform cs m left words words' answers there).1 in
      let b = calls-perform (steps_back n) left back words' words'' backs run in
      let brought = there_and_back cs (history_by m words) f l in (
        b.0 ∙ ap (λ k. (perform (steps_back n) k).answers) t ∙ brought.answers,
        ap (λ (k : History). k.machine) b.1 ∙ ap (λ k. (perform (steps_back n) k).left.machine) t ∙ brought.machine,
        ap (λ (k : History). take (capacity - n) k.earlier) b.1
            ∙ ap (λ k. take (capacity - n) (perform (steps_back n) k).left.earlier) t
            ∙ brought.earlier,
      )
