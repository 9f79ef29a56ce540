-- MODEL H7 and H10: two runs of calls that the contracts allow, and that the claim on steps back is of, so that it is of
-- something: PMSWINC, which adds 1 to two counters, and a level command; and two steps back.
use Prim.Native.Nat.{ℕ}
use mathlib.Core.Bool.{true}
use mathlib.Core.List.{List, [], ◌∷◌}
use mathlib.Core.Path.{◌≡◌, refl}
use borrow.Fn.World.{World}
use lib.ListN.{replicate}
use Rattle.std.specs.Prelude.{Result, Ok}
use Rattle.answer.specs.declared.Refusal.{Refusal}
use Rattle.access.specs.InParts.{Stayed, saying_so}
use Rattle.access.proofs.Calls.{asked, stated, any}
use Rattle.answer.specs.declared.Answer.{Answer}
use Rattle.bits.specs.Bits.{from_bits}
use Rattle.command.specs.declared.Command.{Command}
use Rattle.counters.specs.Decremented.{decremented}
use Rattle.execute.specs.Execute.{obey}
use Rattle.undo_list.specs.History.{remember}
use Rattle.execute.specs.Words.{entries_after, Executed, Accessed}
use Rattle.undo_list.specs.Words.{earlier_by, history_by}
use Rattle.fields.specs.Largest.{largest}
use Rattle.fields.specs.Set.{set, set_all, set_level}
use Rattle.undo_words.specs.Journal.{backwards, entries}
use Rattle.machine.specs.declared.Machine.{Machine}
use Rattle.machine.specs.Machine.{with_level}
use Rattle.machine.specs.Outcome.{says}
use Rattle.rules.specs.Word.{named, register, syndrome, decode, written}
use Rattle.rules.specs.Traps.{disabled_target, stop_at_el3, counter_rules, rules_of, stop_of}
use Rattle.rules.specs.Permitted.{add_mask}
use Rattle.rules.specs.Overflow.{raised}
use Rattle.rules.specs.Apply.{incremented, apply}
use Rattle.rules.specs.Step.{decide_register, decide, step}
use Rattle.rules.specs.Example.{usual, counters_on}
use Rattle.state.specs.State.{view_of, too_large, refusals, verdict_of}
use Rattle.store.specs.Store.{store, store_settings, store_features, store_mdcr2, store_mdcr3, store_pmuacr, store_sampling}
use Rattle.undo.specs.declared.Change.{Change}
use Rattle.undo.specs.Undo.{held, increments, undone}
use Rattle.undo_claims.specs.Back.{steps, forward, steps_back}
use Rattle.undo_claims.specs.Calls.{Run, none, next}
use Rattle.undo_claims.proofs.Calls.{Other, Access, Call, access, other}

-- the commands, and the records before, between and behind them: counters 0 and 1 hold 0, then 1; the level is 1, then 0
abbrev commands : List (Result Command Refusal)
commands = Ok (Command.Access 0xD51B9C81 3) ∷ Ok (Command.Level 0) ∷ []

abbrev start : Machine
start = with_level 1 (set_all (counters_on []) usual)

abbrev added : Machine
added = set_all ((0x60, 1) ∷ (0x61, 1) ∷ []) start

abbrev after : Machine
after = with_level 0 added

-- words of an undo list of which n places are in use, and the next is place n: at the first PMSWINC with its mask, made at
-- level 1, at the second a level command, given at level 1
abbrev words : ℕ → List ℕ
words n = n ∷ n ∷ 0x1FE ∷ 3 ∷ 0 ∷ 0x1FF ∷ replicate 188 0

module _ (w : World) where
  -- where the contract holds of what a call is said to give, the call may give it
  other-may :
      {c : Result Command Refusal} (m : Machine) (before : List ℕ) (answer : Answer) (left : Machine) (behind : List ℕ)
      → Executed c m (says answer left) before behind
      → Other w c m before answer left behind
  other-may {c} m before answer left behind e =
      (any, λ g s. stated w (Executed c m (says answer left) before behind) e (asked w))

  access-may :
      (word x : ℕ) (m : Machine) (before : List ℕ) (answer : Answer) (left : Machine) (behind : List ℕ) (k : Change)
      → Stayed m left
      → Accessed (decode word) x m (saying_so answer left k) left.counters before behind
      → Access w word x m before answer left behind
  access-may word x m before answer left behind k stayed e = (
    any,
    any,
    any,
    k,
    stayed,
    λ g s. stated w (Accessed (decode word) x m (saying_so answer left k) left.counters before behind) e (asked w),
  )

  pub witness :
      Run (Call w) commands start (replicate 194 0) (Answer.Ok ∷ Answer.Ok ∷ []) after (words 2)
      × (forward commands (history_by start (replicate 194 0)) ≡ true)
      × (steps commands (history_by start (replicate 194 0)) ≡ 2)
      × Run (Call w) (steps_back 2) after (words 2) (Answer.Ok ∷ Answer.Ok ∷ []) start (words 0)
  unfolding
      largest set set_all set_level usual view_of too_large refusals verdict_of store store_settings store_features store_mdcr2
      store_mdcr3
      store_pmuacr store_sampling
      named register syndrome decode written disabled_target stop_at_el3 counter_rules rules_of stop_of add_mask from_bits raised
      incremented apply decide_register decide step obey remember forward steps
      backwards entries entries_after earlier_by undone decremented
  witness =
      let listed : List ℕ = 1 ∷ 1 ∷ 0x1FE ∷ 3 ∷ replicate 190 0 in (
        next
            (access (access-may 0xD51B9C81 3 start (replicate 194 0) Answer.Ok added listed (held increments 3) refl
            (record {
              parts = record { answer = refl; values = refl; counters = refl; change = refl };
              listed = refl;
              kept = refl;
            })))
            (next
            (other refl (other-may added listed Answer.Ok after (words 2) (record { obeyed = refl; kept = refl })))
            none),
        refl,
        refl,
        next
            (other refl (other-may after (words 2) Answer.Ok added (words 1) (record { obeyed = refl; kept = refl })))
            (next
            (other refl (other-may added (words 1) Answer.Ok start (words 0) (record { obeyed = refl; kept = refl })))
            none),
      )
