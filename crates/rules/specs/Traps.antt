-- The orders of traps: who is trapped, where to, and by which control. Every test is on a view, which holds nothing of the
-- counters but the test of refusal 15.
use Rattle.std.specs.Prelude.{ℕ, Bool, false, cond, not, ◌&&◌, ◌||◌, List, [], ◌∷◌, leb, eqb}
use Rattle.answer.specs.declared.Cause.{Cause}
use Rattle.answer.specs.declared.Cause.TheVariants.{Pmuserenr, FineGrained, Mdcr2Tpm, Hpmn, Mdcr3Tpm, EnPm2, FgtEn2, Tpms, Nspb}
use Rattle.answer.specs.declared.Level.{Level}
use Rattle.answer.specs.declared.Level.TheVariants.{El1, El2, El3}
use Rattle.bits.specs.Bits.{bit}
use Rattle.machine.specs.First.{first}
use Rattle.state.specs.declared.View.{View}
use Rattle.rules.specs.declared.Register.{Register}
use Rattle.rules.specs.declared.Register.TheVariants.{Pmevcntr, Pmswinc, Pmicntr, Pmsicr, Other}
use Rattle.rules.specs.declared.Stop.{Stop}

-- MODEL T1 to T6, I1 to I6 and N1 to N4: the level is one of 0 to l
abbrev pub up_to : ℕ → View → Bool
up_to l v = leb v.level l

-- MODEL T2: level 0
abbrev pub at_el0 : View → Bool
at_el0 v = eqb v.level 0

-- MODEL F3: EL2 is enabled, which T2 to T5, I2 to I4, N2, N3, G9, G15, R11, R12 and R16 look at. R12 to R14, G12 and G14 look at
-- whether it is implemented
abbrev pub el2_enabled : View → Bool
el2_enabled v = v.settings.execution.el2enabled

-- MODEL F2: EL3 is implemented, which T1, T3, T6, I1, I2, I5, I6, N1, N2 and N4 look at
abbrev pub have_el3 : View → Bool
have_el3 v = v.settings.features.el3

-- MODEL T10: Halted and SDD are both 1
abbrev pub halted_sdd : View → Bool
halted_sdd v = v.settings.execution.halted && v.settings.execution.sdd

-- MODEL T9: not exempt from fine-grained traps, as EL0 is under a host with E2H and TGE both 1
abbrev pub not_host_el0 : View → Bool
not_host_el0 v = not (at_el0 v && v.settings.hcr.e2h && v.settings.hcr.tge)

-- MODEL T1: undefined by the priority of EL3's trap in Debug state
abbrev pub rule1 : View → Bool
rule1 v = have_el3 v && up_to 2 v && halted_sdd v && v.settings.features.el3prio && v.settings.mdcr3.tpm

-- MODEL T2: at EL0, where PMUSERENR has disabled the access (document 01: the gate is shut)
abbrev pub rule2 : View → Bool → Bool
rule2 v disabled = at_el0 v && disabled

-- MODEL T3: the fine-grained bit that goes with the register and the direction
abbrev pub rule3 : View → Bool → Bool
rule3 v trapBit =
    el2_enabled v
    && up_to 1 v
    && not_host_el0 v
    && v.settings.features.fgt
    && (not (have_el3 v) || v.settings.scr.fgten)
    && trapBit

-- MODEL T4 and I4: MDCR_EL2.TPM
abbrev pub rule4 : View → Bool
rule4 v = el2_enabled v && up_to 1 v && v.settings.mdcr2.tpm

-- MODEL T5 and G9: event counter m is inaccessible from the level: at EL0 and EL1 from HPMN on, while EL2 is enabled. (Of the
-- counters below N these are the ones from Arm's GetNumEventCountersAccessible() on.) T5 holds without FGT too, where Arm's page
-- 001 leaves a choice. Which bits control a counter is `in_second_range` (Ranges.antt), which asks whether EL2 is implemented, at
-- every level
abbrev pub inaccessible : View → ℕ → Bool
inaccessible v m = el2_enabled v && up_to 1 v && leb v.settings.mdcr2.hpmn m

-- MODEL T6 and I6: MDCR_EL3.TPM
abbrev pub rule6 : View → Bool
rule6 v = have_el3 v && up_to 2 v && v.settings.mdcr3.tpm

-- MODEL T2: its target
unfoldable pub disabled_target : View → Level
disabled_target v = cond (el2_enabled v && v.settings.hcr.tge) El2 El1

-- MODEL T10: a stop at EL3 by this control
unfoldable pub stop_at_el3 : View → Cause → Stop
stop_at_el3 v cause = cond (halted_sdd v) Stop.Undef (Stop.Trap El3 cause)

-- MODEL T1 to T6 and D0: each rule's test and its stop, with the cause, in order, from whether PMUSERENR has disabled the access
-- at EL0, the fine-grained bit of the register and direction, and whether the counter is inaccessible, which is T5's test
unfoldable pub counter_rules : View → Bool → Bool → Bool → List (Bool × Stop)
counter_rules v disabled trapBit rule5 =
    (rule1 v, Stop.Undef)
    ∷ (rule2 v disabled, Stop.Trap (disabled_target v) Pmuserenr)
    ∷ (rule3 v trapBit, Stop.Trap El2 FineGrained)
    ∷ (rule4 v, Stop.Trap El2 Mdcr2Tpm)
    ∷ (rule5, Stop.Trap El2 Hpmn)
    ∷ (rule6 v, stop_at_el3 v Mdcr3Tpm)
    ∷ []

-- MODEL T1 to T6: the first that applies
unfoldable pub counter_order : View → Bool → Bool → Bool → Stop
counter_order v disabled trapBit rule5 = first (counter_rules v disabled trapBit rule5) Stop.Pass

-- PMICNTR's fourth rule is `rule4` and its sixth `rule6`.

-- MODEL I1: undefined by the priority of EL3's traps in Debug state
abbrev pub icntr_rule1 : View → Bool
icntr_rule1 v =
    have_el3 v
    && up_to 2 v
    && halted_sdd v
    && v.settings.features.el3prio
    && (not v.settings.mdcr3.enpm2 || v.settings.mdcr3.tpm)

-- MODEL I2: FGTEn2 is 0
abbrev pub icntr_rule2 : View → Bool
icntr_rule2 v =
    el2_enabled v
    && up_to 1 v
    && not_host_el0 v
    && v.settings.features.fgt2
    && have_el3 v
    && not v.settings.scr.fgten2

-- MODEL I3: the fine-grained bit of this direction, which traps while it is 0
abbrev pub icntr_rule3 : View → Bool → Bool
icntr_rule3 v nPMICNTR = el2_enabled v && up_to 1 v && not_host_el0 v && v.settings.features.fgt2 && not nPMICNTR

-- MODEL I5: EnPM2 is 0
abbrev pub icntr_rule5 : View → Bool
icntr_rule5 v = have_el3 v && up_to 2 v && not v.settings.mdcr3.enpm2

-- MODEL I1 to I6 and D0: each rule's test and its stop, with the cause, in order, from the fine-grained bit of the direction.
-- PMUSERENR is not looked at (MODEL I8)
unfoldable pub icntr_rules : View → Bool → List (Bool × Stop)
icntr_rules v nPMICNTR =
    (icntr_rule1 v, Stop.Undef)
    ∷ (icntr_rule2 v, Stop.Trap El2 FgtEn2)
    ∷ (icntr_rule3 v nPMICNTR, Stop.Trap El2 FineGrained)
    ∷ (rule4 v, Stop.Trap El2 Mdcr2Tpm)
    ∷ (icntr_rule5 v, stop_at_el3 v EnPm2)
    ∷ (rule6 v, stop_at_el3 v Mdcr3Tpm)
    ∷ []

-- MODEL I1 to I6: the first that applies
unfoldable pub icntr_order : View → Bool → Stop
icntr_order v nPMICNTR = first (icntr_rules v nPMICNTR) Stop.Pass

-- MODEL N5: one of two bits is 1 and the other 0
abbrev pub differ : Bool → Bool → Bool
differ a b = (a && not b) || (not a && b)

-- MODEL N5: NSPB keeps the access from PMSICR: its bit 0 is 0, or its bit 1 differs from NS
abbrev pub nspb_bars : View → Bool
nspb_bars v =
    let nspb = v.settings.mdcr3.nspb in
    not (bit 0 nspb) || differ (bit 1 nspb) v.settings.scr.ns

-- MODEL N1: undefined by the priority of EL3's trap in Debug state
abbrev pub pmsicr_rule1 : View → Bool
pmsicr_rule1 v = have_el3 v && up_to 2 v && halted_sdd v && v.settings.features.el3prio && nspb_bars v

-- MODEL N2: the fine-grained bit of this direction. E2H and TGE exempt no level (MODEL N7)
abbrev pub pmsicr_rule2 : View → Bool → Bool
pmsicr_rule2 v trapBit =
    el2_enabled v && up_to 1 v && v.settings.features.fgt && (not (have_el3 v) || v.settings.scr.fgten) && trapBit

-- MODEL N3: TPMS
abbrev pub pmsicr_rule3 : View → Bool
pmsicr_rule3 v = el2_enabled v && up_to 1 v && v.settings.mdcr2.tpms

-- MODEL N4: NSPB
abbrev pub pmsicr_rule4 : View → Bool
pmsicr_rule4 v = have_el3 v && up_to 2 v && nspb_bars v

-- MODEL N1 to N4 and D0: each rule's test and its stop, with the cause, in order, from the fine-grained bit of the direction.
-- Level 0 never comes here (MODEL U7), so that the tests need not leave it out
unfoldable pub pmsicr_rules : View → Bool → List (Bool × Stop)
pmsicr_rules v trapBit =
    (pmsicr_rule1 v, Stop.Undef)
    ∷ (pmsicr_rule2 v trapBit, Stop.Trap El2 FineGrained)
    ∷ (pmsicr_rule3 v, Stop.Trap El2 Tpms)
    ∷ (pmsicr_rule4 v, stop_at_el3 v Nspb)
    ∷ []

-- MODEL T7: PMUSERENR does not enable MRS, or MSR, of an event counter
abbrev pub pmevcntr_disabled : View → Bool → Bool
pmevcntr_disabled v read =
    cond read (not v.settings.pmuserenr.en && not v.settings.pmuserenr.er) (not v.settings.pmuserenr.en)

-- MODEL T7: nor MSR of PMSWINC
abbrev pub pmswinc_disabled : View → Bool
pmswinc_disabled v = not v.settings.pmuserenr.en && not v.settings.pmuserenr.sw

-- MODEL T8: the fine-grained bit of an event counter and a direction
abbrev pub pmevcntr_bit : View → Bool → Bool
pmevcntr_bit v read = cond read v.settings.hdfgrtr.pmevcntrn v.settings.hdfgwtr.pmevcntrn

-- MODEL I7: that of PMICNTR, in HDFGRTR2_EL2 and HDFGWTR2_EL2
abbrev pub pmicntr_bit : View → Bool → Bool
pmicntr_bit v read = cond read v.settings.hdfgrtr.npmicntr v.settings.hdfgwtr.npmicntr

-- MODEL N6: that of PMSICR
abbrev pub pmsicr_bit : View → Bool → Bool
pmsicr_bit v read = cond read v.settings.hdfgrtr.pmsicr v.settings.hdfgwtr.pmsicr

-- MODEL T1 to T8, I1 to I7 and N1 to N6: the order of a register and a direction. T5 is not for PMSWINC, and a word of no
-- register of the model's has no rules
unfoldable pub rules_of : View → Register → Bool → List (Bool × Stop)
rules_of v (Pmevcntr m) read = counter_rules v (pmevcntr_disabled v read) (pmevcntr_bit v read) (inaccessible v m)
rules_of v Pmswinc read = counter_rules v (pmswinc_disabled v) v.settings.hdfgwtr.pmswinc false
rules_of v Pmicntr read = icntr_rules v (pmicntr_bit v read)
rules_of v Pmsicr read = pmsicr_rules v (pmsicr_bit v read)
rules_of v Other read = []

-- MODEL T1 to T6, I1 to I6 and N1 to N4: the first that applies; where none does, the access passes
unfoldable pub stop_of : View → Register → Bool → Stop
stop_of v r read = first (rules_of v r read) Stop.Pass
