-- The by-value step: decide, by a view in which there is no counter, then apply; and a list of accesses, each with its own
-- level.
use Rattle.std.specs.Prelude.{ℕ, Bool, false, cond, not, ◌||◌, List, [], ◌∷◌, leb, Result, Ok, Err, ⊤}
use Rattle.answer.specs.declared.Answer.{Answer}
use Rattle.machine.specs.declared.Machine.{Machine}
use Rattle.machine.specs.declared.Outcome.{Outcome}
use Rattle.machine.specs.Machine.{with_level}
use Rattle.answer.specs.declared.Refusal.{Refusal}
use Rattle.state.specs.declared.View.{View}
use Rattle.state.specs.State.{view_of, verdict_of}
use Rattle.rules.specs.declared.Decision.{Decision}
use Rattle.rules.specs.declared.Decision.TheVariants.{Says}
use Rattle.rules.specs.declared.Instruction.{Instruction}
use Rattle.rules.specs.declared.Register.{Register}
use Rattle.rules.specs.declared.Register.TheVariants.{Pmevcntr, Pmswinc, Pmicntr, Pmsicr, Other}
use Rattle.rules.specs.declared.Stop.{Stop}
use Rattle.rules.specs.Word.{decode}
use Rattle.rules.specs.Traps.{at_el0, stop_of}
use Rattle.rules.specs.Permitted.{pmevcntr_access, pmswinc_access, pmicntr_access, pmsicr_access}
use Rattle.rules.specs.Apply.{apply}

-- MODEL U1 to U7: undefined before any trap is looked at. U2 holds without FGT too, where Arm's page 001 leaves a choice
abbrev pub undefined_at_once : View → Register → Bool → Bool
undefined_at_once v (Pmevcntr m) read = not v.settings.features.pmuv3 || leb v.settings.features.n m
undefined_at_once v Pmswinc read = not v.settings.features.pmuv3 || read
undefined_at_once v Pmicntr read = not v.settings.features.icntr
undefined_at_once v Pmsicr read = not v.settings.features.spe || at_el0 v
undefined_at_once v Other read = false

-- MODEL G2, G8, G15 and W7: a permitted access; a word of no register of the model's answers `other`
abbrev pub permitted : View → Register → Instruction → ℕ → Decision
permitted v (Pmevcntr m) i x = pmevcntr_access v m i x
permitted v Pmswinc i x = pmswinc_access v i x
permitted v Pmicntr i x = pmicntr_access v i x
permitted v Pmsicr i x = pmsicr_access v i x
permitted v Other i x = Says Answer.Other

-- MODEL T11: an access that the order of traps passes is permitted, and a trap answers its target, its cause and the syndrome
abbrev pub unless_stopped : ℕ → Stop → Decision → Decision
unless_stopped syndrome Stop.Pass d = d
unless_stopped syndrome Stop.Undef d = Says Answer.Undef
unless_stopped syndrome (Stop.Trap l c) d = Says (Answer.Trap (record { target = l; cause = c; syndrome = syndrome }))

-- MODEL A2: the access to a register of a consistent record: undefined at once, or stopped by the order of traps, or permitted
unfoldable pub decide_register : View → Register → Instruction → ℕ → Decision
decide_register v r i x =
    cond (undefined_at_once v r i.read) (Says Answer.Undef)
    (unless_stopped i.syndrome (stop_of v r i.read) (permitted v r i x))

-- MODEL V3: a refused record comes before all else
abbrev pub unless_refused : Result ⊤ Refusal → Decision → Decision
unless_refused (Ok _) d = d
unless_refused (Err r) d = Says (Answer.Refused r)

-- MODEL A2 and X4: what the access with instruction i, a word taken apart, and operand x is to do
abbrev pub decide_decoded : View → Instruction → ℕ → Decision
decide_decoded v i x = unless_refused (verdict_of v) (decide_register v i.register i x)

-- MODEL A2: what the access with word w and operand x is to do
unfoldable pub decide : View → ℕ → ℕ → Decision
decide v w x = decide_decoded v (decode w) x

-- MODEL A1: the access with word w and operand x
unfoldable pub step : ℕ → ℕ → Machine → Outcome
step w x r = apply (decide (view_of r) w x) r

-- MODEL A1 and X4: the access with an instruction, a word taken apart
abbrev pub step_decoded : Instruction → ℕ → Machine → Outcome
step_decoded i x r = apply (decide_decoded (view_of r) i x) r

-- MODEL M1: an access of a list, with its own level
pub record Access : Type 0 where
  pub level : ℕ
  pub word : ℕ
  pub operand : ℕ

-- MODEL M2: what a list of accesses answers, in order, and the record after it
pub record Run : Type 0 where
  pub answers : List Answer
  pub machine : Machine

-- MODEL M2: the level is put to the access's own, and the access is made
unfoldable pub access : Access → Machine → Outcome
access a r = step a.word a.operand (with_level a.level r)

-- MODEL M2: the list run from a start record
unfoldable pub run : List Access → Machine → Run
run [] r = record { answers = []; machine = r }
run (a ∷ rest) r =
    let o = access a r in
    let after = run rest o.machine in
    record { answers = o.answer ∷ after.answers; machine = after.machine }
