-- What it is for the cause of a trap to be responsible: the control that it names, put to its open value, and what comes of it.
use Rattle.std.specs.Prelude.{ℕ, ◌+◌, Bool, true, false, cond, ◌&&◌, ◌||◌, List, [], ◌∷◌, ◌++◌, ◌≡◌, leb, ltb, eqb, Ok}
use Rattle.answer.specs.declared.Answer.{Answer}
use Rattle.answer.specs.declared.Cause.{Cause}
use Rattle.answer.specs.declared.Cause.TheVariants.{Pmuserenr, FineGrained, Mdcr2Tpm, Hpmn, Mdcr3Tpm, EnPm2, FgtEn2, Tpms, Nspb}
use Rattle.answer.specs.declared.Trap.{Trap}
use Rattle.answer.specs.Numbers.{cause_number}
use Rattle.fields.specs.Set.{set_all}
use Rattle.machine.specs.declared.Machine.{Machine}
use Rattle.machine.specs.declared.Settings.{Settings}
use Rattle.machine.specs.First.{first}
use Rattle.rules.specs.declared.Register.{Register}
use Rattle.rules.specs.declared.Register.TheVariants.{Pmevcntr, Pmswinc, Pmicntr, Pmsicr, Other}
use Rattle.rules.specs.declared.Stop.{Stop}
use Rattle.rules.specs.Step.{unless_stopped, permitted, decide, step}
use Rattle.rules.specs.Traps.{rules_of}
use Rattle.rules.specs.Word.{decode}
use Rattle.state.specs.declared.View.{View}
use Rattle.state.specs.State.{view_of, verdict_of}

-- MODEL D9: the open value of NSPB, by NS
abbrev pub nspb_open : Bool → ℕ
nspb_open ns = cond ns 3 1

-- MODEL D1 to D9: the set command, field and value, that opens the control of a cause, for an access to a register in a direction
-- (true reads), under these settings. HPMN is put to h. (Where no rule of the register has the cause, the row is never used.)
abbrev pub opening : Settings → ℕ → Cause → Register → Bool → List (ℕ × ℕ)
-- MODEL D1: EN 1
opening s h Pmuserenr r read = (0x20, 1) ∷ []
-- MODEL D2: the bit that goes with the register and the direction, 0 where 1 traps and 1 where 0 traps
opening s h FineGrained (Pmevcntr m) true = (0x2C, 0) ∷ []
opening s h FineGrained (Pmevcntr m) false = (0x2D, 0) ∷ []
opening s h FineGrained Pmswinc read = (0x2E, 0) ∷ []
opening s h FineGrained Pmicntr true = (0x2F, 1) ∷ []
opening s h FineGrained Pmicntr false = (0x30, 1) ∷ []
opening s h FineGrained Pmsicr true = (0x89, 0) ∷ []
opening s h FineGrained Pmsicr false = (0x8A, 0) ∷ []
opening s h FineGrained Other read = []
-- MODEL D3: TPM of EL2 0
opening s h Mdcr2Tpm r read = (0x26, 0) ∷ []
-- MODEL D4: HPMN
opening s h Hpmn (Pmevcntr m) read = (0x27, h) ∷ []
opening s h Hpmn Pmswinc read = []
opening s h Hpmn Pmicntr read = []
opening s h Hpmn Pmsicr read = []
opening s h Hpmn Other read = []
-- MODEL D5: TPM of EL3 0
opening s h Mdcr3Tpm r read = (0x28, 0) ∷ []
-- MODEL D6: EnPM2 1
opening s h EnPm2 r read = (0x29, 1) ∷ []
-- MODEL D7: FGTEn2 1
opening s h FgtEn2 r read = (0x2B, 1) ∷ []
-- MODEL D8: TPMS 0
opening s h Tpms r read = (0x86, 0) ∷ []
-- MODEL D9: NSPB with bit 0 1 and bit 1 as NS
opening s h Nspb (Pmevcntr m) read = []
opening s h Nspb Pmswinc read = []
opening s h Nspb Pmicntr read = []
opening s h Nspb Pmsicr read = (0x88, nspb_open s.scr.ns) ∷ []
opening s h Nspb Other read = []

-- MODEL D4: HPMN may be put to h to open an event counter: h is above m, and N allows it. Of other registers nothing is asked
abbrev pub allows : View → Register → ℕ → Bool
allows v (Pmevcntr m) h = ltb m h && leb h v.settings.features.n
allows v Pmswinc h = true
allows v Pmicntr h = true
allows v Pmsicr h = true
allows v Other h = true

-- MODEL D11: the lowest such number
abbrev pub lowest : Register → ℕ
lowest (Pmevcntr m) = m + 1
lowest Pmswinc = 0
lowest Pmicntr = 0
lowest Pmsicr = 0
lowest Other = 0

-- MODEL D11: the record after the set command that opens the control, for the access with word w
abbrev pub opened : ℕ → Cause → ℕ → Machine → Machine
opened h c w r = set_all (opening r.settings h c (decode w).register (decode w).read) r

-- MODEL D10: the test of some row holds
abbrev pub any_holds : List (Bool × Stop) → Bool
any_holds [] = false
any_holds (row ∷ rest) = row.0 || any_holds rest

-- MODEL D10: the row of an order that stops an access: its test holds, it says s, and the test of no earlier row holds
pub record StoppedBy (rows : List (Bool × Stop)) (s : Stop) : Type 0 where
  pub earlier : List (Bool × Stop)
  pub later : List (Bool × Stop)
  pub order : rows ≡ earlier ++ ((true, s) ∷ later)
  pub fell : any_holds earlier ≡ false

-- MODEL D0: what an answer shows of a stop: a trap its target and its cause, any other answer none
abbrev pub shown_stop : Answer → Stop
shown_stop Answer.Ok = Stop.Pass
shown_stop Answer.Sampled = Stop.Pass
shown_stop Answer.End = Stop.Pass
shown_stop Answer.Undef = Stop.Pass
shown_stop Answer.Other = Stop.Pass
shown_stop Answer.Error = Stop.Pass
shown_stop (Answer.Trap t) = Stop.Trap t.target t.cause
shown_stop (Answer.Value x) = Stop.Pass
shown_stop (Answer.Mrs x rt) = Stop.Pass
shown_stop (Answer.Refused n) = Stop.Pass

-- MODEL D13: the stop is a trap by this cause
abbrev pub is_by : Cause → Stop → Bool
is_by c Stop.Pass = false
is_by c Stop.Undef = false
is_by c (Stop.Trap l d) = eqb (cause_number c) (cause_number d)

-- MODEL D11 to D13: what comes of the access with word w and operand x once the control of cause c is opened in record r; later
-- are the rows behind the one that stopped it
pub record GoesOn (w x : ℕ) (r : Machine) (c : Cause) (later : List (Bool × Stop)) (h : ℕ) : Type 0 where
  -- MODEL D11: the record is consistent
  pub consistent : verdict_of (view_of (opened h c w r)) ≡ Ok tt
  -- MODEL D12: those rows decide, as they were before
  pub decided :
      decide (view_of (opened h c w r)) w x
      ≡ unless_stopped (decode w).syndrome (first later Stop.Pass) (permitted (view_of r) (decode w).register (decode w) x)
  -- MODEL D13: the answer is no trap by this cause
  pub gone : is_by c (shown_stop (step w x (opened h c w r)).answer) ≡ false

-- MODEL D10 to D13: the cause of trap t is responsible for it: t is what the access with word w and operand x to record r answers
pub record Responsible (w x : ℕ) (r : Machine) (t : Trap) : Type 0 where
  -- MODEL D10: the row that stops the access has this target and this cause, and no earlier row applies
  pub row : StoppedBy (rules_of (view_of r) (decode w).register (decode w).read) (Stop.Trap t.target t.cause)
  -- MODEL D11: N allows HPMN to be the lowest number above m
  pub allowed : allows (view_of r) (decode w).register (lowest (decode w).register) ≡ true
  -- MODEL D11 to D13: with the control opened, HPMN by any number h that is allowed (which other causes do not use), and all else
  -- as it was
  pub goes_on : (h : ℕ) → allows (view_of r) (decode w).register h ≡ true → GoesOn w x r t.cause row.later h

-- MODEL D10 to D13: every trap that an access answers has a cause that is responsible for it
abbrev pub CausesAreResponsible : Type 0
CausesAreResponsible = (w x : ℕ) (r : Machine) (t : Trap) → (step w x r).answer ≡ Answer.Trap t → Responsible w x r t
