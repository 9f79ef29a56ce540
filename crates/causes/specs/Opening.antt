-- Examples of accesses whose controls are all closed, and are opened one after the other as the causes name them.
use Rattle.std.specs.Prelude.{ℕ, zero, suc, List, [], ◌∷◌, ◌++◌, map, length}
use Rattle.answer.specs.declared.Answer.{Answer}
use Rattle.answer.specs.declared.Cause.{Cause}
use Rattle.answer.specs.declared.Cause.TheVariants.{Pmuserenr, FineGrained, Mdcr2Tpm, Hpmn, Mdcr3Tpm, EnPm2, FgtEn2, Tpms}
use Rattle.answer.specs.declared.Cause.TheVariants.{Nspb}
use Rattle.answer.specs.declared.Level.{Level}
use Rattle.answer.specs.declared.Level.TheVariants.{El1, El2, El3}
use Rattle.fields.specs.Set.{set_all}
use Rattle.machine.specs.declared.Machine.{Machine}
use Rattle.machine.specs.Machine.{with_level}
use Rattle.rules.specs.Example.{on, usual, trap, gives}
use Rattle.rules.specs.Step.{step}
use Rattle.rules.specs.declared.Stop.{Stop}
use Rattle.rules.specs.Word.{decode}
use Rattle.causes.specs.Responsible.{lowest, opened, shown_stop}

-- MODEL D11: the record with the control opened that a stop names, HPMN by the lowest number; the same record where it names none
abbrev pub opened_by : Stop → ℕ → Machine → Machine
opened_by Stop.Pass w r = r
opened_by Stop.Undef w r = r
opened_by (Stop.Trap l c) w r = opened (lowest (decode w).register) c w r

-- MODEL D12: what the access with word w and operand x answers, k times, the control that each answer names being opened before
-- the next
unfoldable pub in_turn : ℕ → ℕ → ℕ → Machine → List Answer
in_turn zero w x r = []
in_turn (suc k) w x r = let a = (step w x r).answer in a ∷ in_turn k w x (opened_by (shown_stop a) w r)

-- MODEL P12: an access from a level, its syndrome, the targets and causes of its traps in turn, and what it answers at last
pub record Turns : Type 0 where
  pub level : ℕ
  pub word : ℕ
  pub operand : ℕ
  pub syndrome : ℕ
  pub traps : List (Level × Cause)
  pub last : Answer

-- MODEL D1 to D9: the usual record, in which HPMN is 4, with EL3, ICNTR, FGT2, FGTEn and SPE, and every control closed: EN 0,
-- both TPM and TPMS 1, the fine-grained bits 1 where 1 traps; those where 0 traps, EnPM2, FGTEn2 and NSPB are 0 as before. With
-- F0 level 0 can read PMICNTR. NS is 1
unfoldable pub all_closed : Machine
all_closed =
    set_all
    ((0x20, 0)
    ∷ (0x64, 9)
    ∷ (0x7F, 5)
    ∷ (0x8C, 6)
    ∷ on (0x03 ∷ 0x05 ∷ 0x0A ∷ 0x26 ∷ 0x28 ∷ 0x2A ∷ 0x2C ∷ 0x2D ∷ 0x2E ∷ 0x33 ∷ 0x80 ∷ 0x86 ∷ 0x87 ∷ 0x89 ∷ 0x8A ∷ []))
    usual

-- MODEL D12: what the definitions give; answers alone are compared
unfoldable pub turns_actual : Turns → List Answer
turns_actual e = in_turn (suc (length e.traps)) e.word e.operand (with_level e.level all_closed)

-- MODEL P12: what the example says
unfoldable pub turns_expected : Turns → List Answer
turns_expected e = map (λ t. trap t.0 e.syndrome t.1) e.traps ++ (e.last ∷ [])

-- MODEL P12: an example by its parts
abbrev pub turns : ℕ → ℕ → ℕ → ℕ → List (Level × Cause) → Answer → Turns
turns l w x s t a = record { level = l; word = w; operand = x; syndrome = s; traps = t; last = a }

-- MODEL T3 to T6: the traps of a counter at HPMN from level 1; from level 0 T2 comes before them
abbrev pub counter_traps : List (Level × Cause)
counter_traps = (El2, FineGrained) ∷ (El2, Mdcr2Tpm) ∷ (El2, Hpmn) ∷ (El3, Mdcr3Tpm) ∷ []

-- MODEL T3 to T6: of PMSWINC
abbrev pub swinc_traps : List (Level × Cause)
swinc_traps = (El2, FineGrained) ∷ (El2, Mdcr2Tpm) ∷ (El3, Mdcr3Tpm) ∷ []

-- MODEL I2 to I6: of PMICNTR, from levels 0 and 1
abbrev pub icntr_traps : List (Level × Cause)
icntr_traps = (El2, FgtEn2) ∷ (El2, FineGrained) ∷ (El2, Mdcr2Tpm) ∷ (El3, EnPm2) ∷ (El3, Mdcr3Tpm) ∷ []

-- MODEL N2 to N4: of PMSICR, from level 1
abbrev pub pmsicr_traps : List (Level × Cause)
pmsicr_traps = (El2, FineGrained) ∷ (El2, Tpms) ∷ (El3, Nspb) ∷ []

-- MODEL P12: for D10 to D13, each register and direction from each level at which a control of its stops it, and one from level 3
unfoldable pub turn_examples : List Turns
turn_examples =
    turns 0 0xD53BE882 0 0x6238F851 ((El1, Pmuserenr) ∷ counter_traps) (gives 9)
    ∷ turns 0 0xD51BE882 7 0x6238F850 ((El1, Pmuserenr) ∷ counter_traps) Answer.Ok
    ∷ turns 0 0xD51B9C81 8 0x6238E438 ((El1, Pmuserenr) ∷ swinc_traps) Answer.Ok
    ∷ turns 0 0xD53B9402 0 0x6230E449 icntr_traps (gives 5)
    ∷ turns 0 0xD51B9402 7 0x6230E448 icntr_traps Answer.Ok
    ∷ turns 1 0xD53BE882 0 0x6238F851 counter_traps (gives 9)
    ∷ turns 1 0xD51BE882 7 0x6238F850 counter_traps Answer.Ok
    ∷ turns 1 0xD51B9C81 8 0x6238E438 swinc_traps Answer.Ok
    ∷ turns 1 0xD53B9402 0 0x6230E449 icntr_traps (gives 5)
    ∷ turns 1 0xD51B9402 7 0x6230E448 icntr_traps Answer.Ok
    ∷ turns 2 0xD53BE882 0 0x6238F851 ((El3, Mdcr3Tpm) ∷ []) (gives 9)
    ∷ turns 2 0xD51BE882 7 0x6238F850 ((El3, Mdcr3Tpm) ∷ []) Answer.Ok
    ∷ turns 2 0xD51B9C81 8 0x6238E438 ((El3, Mdcr3Tpm) ∷ []) Answer.Ok
    ∷ turns 2 0xD53B9402 0 0x6230E449 ((El3, EnPm2) ∷ (El3, Mdcr3Tpm) ∷ []) (gives 5)
    ∷ turns 2 0xD51B9402 7 0x6230E448 ((El3, EnPm2) ∷ (El3, Mdcr3Tpm) ∷ []) Answer.Ok
    ∷ turns 1 0xD5389942 0 0x62342453 pmsicr_traps (gives 6)
    ∷ turns 1 0xD5189942 7 0x62342452 pmsicr_traps Answer.Ok
    ∷ turns 2 0xD5389942 0 0x62342453 ((El3, Nspb) ∷ []) (gives 6)
    ∷ turns 2 0xD5189942 7 0x62342452 ((El3, Nspb) ∷ []) Answer.Ok
    ∷ turns 3 0xD53BE882 0 0x6238F851 [] (gives 9)
    ∷ []
