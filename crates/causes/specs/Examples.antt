-- Examples of causes, as data: each cause for each register, direction, level and target at which it can be, and each two
-- controls of an access closed at once.
use Rattle.std.specs.Prelude.{ℕ, List, [], ◌∷◌, ◌++◌, map}
use Rattle.answer.specs.declared.Cause.{Cause}
use Rattle.answer.specs.declared.Cause.TheVariants.{Pmuserenr, FineGrained, Mdcr2Tpm, Hpmn, Mdcr3Tpm, EnPm2, FgtEn2, Tpms}
use Rattle.answer.specs.declared.Cause.TheVariants.{Nspb}
use Rattle.answer.specs.declared.Level.{Level}
use Rattle.answer.specs.declared.Level.TheVariants.{El1, El2, El3}
use Rattle.rules.specs.Example.{Example, Action, on, counters_on, shows, trap, swinc, mrs3, msr3, mrs4, mrs_icntr, msr_icntr}
use Rattle.rules.specs.Example.{mrs_sicr, msr_sicr}
use Rattle.rules.specs.Example.Action.{access}

-- MODEL D0: each of these accesses, with its syndrome, is trapped to this level by this cause, and nothing has changed
abbrev pub trapped : List (ℕ × ℕ) → ℕ → List (Action × ℕ) → Level → Cause → Example
trapped given level accesses target cause =
    shows (counters_on given) level (map (λ a. a.0) accesses) (map (λ a. trap target a.1 cause) accesses) []

-- MODEL W9: accesses with their syndromes: MRS and MSR of counter 3, below HPMN
abbrev pub counter3 : List (Action × ℕ)
counter3 = (mrs3, 0x6236F851) ∷ (msr3 5, 0x6236F850) ∷ []

-- MODEL W9: of counter 4, at HPMN
abbrev pub counter4 : List (Action × ℕ)
counter4 = (mrs4, 0x6238F851) ∷ (access 0xD51BE882 5, 0x6238F850) ∷ []

-- MODEL W9: MSR of PMSWINC
abbrev pub pmswinc : List (Action × ℕ)
pmswinc = (swinc 8, 0x6238E438) ∷ []

-- MODEL W9: MRS and MSR of PMICNTR
abbrev pub pmicntr : List (Action × ℕ)
pmicntr = (mrs_icntr, 0x6230E449) ∷ (msr_icntr 7, 0x6230E448) ∷ []

-- MODEL W9: MRS and MSR of PMSICR
abbrev pub pmsicr : List (Action × ℕ)
pmsicr = (mrs_sicr, 0x62342453) ∷ (msr_sicr 7, 0x62342452) ∷ []

-- MODEL P12: for D1 to D9, one control closed
unfoldable pub single : List Example
single =
    -- MODEL D1: at level 0; to EL1, and to EL2 under TGE
    trapped ((0x20, 0) ∷ []) 0 (counter3 ++ pmswinc) El1 Pmuserenr
    ∷ trapped ((0x20, 0) ∷ (0x25, 1) ∷ []) 0 (counter3 ++ pmswinc) El2 Pmuserenr
    -- MODEL D2: at levels 0 and 1
    ∷ trapped (on (0x2C ∷ 0x2D ∷ 0x2E ∷ [])) 0 (counter3 ++ pmswinc) El2 FineGrained
    ∷ trapped (on (0x2C ∷ 0x2D ∷ 0x2E ∷ [])) 1 (counter3 ++ pmswinc) El2 FineGrained
    ∷ trapped (on (0x03 ∷ 0x05 ∷ [])) 0 pmicntr El2 FineGrained
    ∷ trapped (on (0x03 ∷ 0x05 ∷ [])) 1 pmicntr El2 FineGrained
    ∷ trapped (on (0x80 ∷ 0x89 ∷ 0x8A ∷ [])) 1 pmsicr El2 FineGrained
    -- MODEL D3: at levels 0 and 1
    ∷ trapped (on (0x03 ∷ 0x26 ∷ [])) 0 (counter3 ++ pmswinc ++ pmicntr) El2 Mdcr2Tpm
    ∷ trapped (on (0x03 ∷ 0x26 ∷ [])) 1 (counter3 ++ pmswinc ++ pmicntr) El2 Mdcr2Tpm
    -- MODEL D4: at levels 0 and 1
    ∷ trapped [] 0 counter4 El2 Hpmn
    ∷ trapped [] 1 counter4 El2 Hpmn
    -- MODEL D5: at levels 0 to 2
    ∷ trapped (on (0x03 ∷ 0x0A ∷ 0x28 ∷ 0x29 ∷ [])) 0 (counter3 ++ pmswinc ++ pmicntr) El3 Mdcr3Tpm
    ∷ trapped (on (0x03 ∷ 0x0A ∷ 0x28 ∷ 0x29 ∷ [])) 1 (counter3 ++ pmswinc ++ pmicntr) El3 Mdcr3Tpm
    ∷ trapped (on (0x03 ∷ 0x0A ∷ 0x28 ∷ 0x29 ∷ [])) 2 (counter3 ++ counter4 ++ pmswinc ++ pmicntr) El3 Mdcr3Tpm
    -- MODEL D6: at levels 0 to 2
    ∷ trapped (on (0x03 ∷ 0x0A ∷ [])) 0 pmicntr El3 EnPm2
    ∷ trapped (on (0x03 ∷ 0x0A ∷ [])) 1 pmicntr El3 EnPm2
    ∷ trapped (on (0x03 ∷ 0x0A ∷ [])) 2 pmicntr El3 EnPm2
    -- MODEL D7: at levels 0 and 1
    ∷ trapped (on (0x03 ∷ 0x05 ∷ 0x0A ∷ 0x29 ∷ 0x2F ∷ 0x30 ∷ [])) 0 pmicntr El2 FgtEn2
    ∷ trapped (on (0x03 ∷ 0x05 ∷ 0x0A ∷ 0x29 ∷ 0x2F ∷ 0x30 ∷ [])) 1 pmicntr El2 FgtEn2
    -- MODEL D8: at level 1
    ∷ trapped (on (0x80 ∷ 0x86 ∷ [])) 1 pmsicr El2 Tpms
    -- MODEL D9: at levels 1 and 2, with NS 0 and with NS 1
    ∷ trapped ((0x88, 3) ∷ on (0x80 ∷ 0x0A ∷ [])) 1 pmsicr El3 Nspb
    ∷ trapped ((0x88, 1) ∷ on (0x80 ∷ 0x0A ∷ 0x87 ∷ [])) 2 pmsicr El3 Nspb
    ∷ []

-- MODEL T2: before T3, T4, T5 and T6, with these settings beside, to this target
abbrev pub disabled_pairs : List (ℕ × ℕ) → Level → List Example
disabled_pairs given target =
    trapped ((0x20, 0) ∷ given ++ on (0x2C ∷ 0x2D ∷ 0x2E ∷ [])) 0 (counter3 ++ pmswinc) target Pmuserenr
    ∷ trapped ((0x20, 0) ∷ given ++ on (0x26 ∷ [])) 0 (counter3 ++ pmswinc) target Pmuserenr
    ∷ trapped ((0x20, 0) ∷ given) 0 counter4 target Pmuserenr
    ∷ trapped ((0x20, 0) ∷ given ++ on (0x0A ∷ 0x28 ∷ [])) 0 (counter3 ++ pmswinc) target Pmuserenr
    ∷ []

-- MODEL T3 to T5: each before those behind it, from a level
abbrev pub counter_pairs : ℕ → List Example
counter_pairs level =
    -- MODEL T3 before T4, T5 and T6
    trapped (on (0x26 ∷ 0x2C ∷ 0x2D ∷ 0x2E ∷ [])) level (counter3 ++ pmswinc) El2 FineGrained
    ∷ trapped (on (0x2C ∷ 0x2D ∷ [])) level counter4 El2 FineGrained
    ∷ trapped (on (0x0A ∷ 0x28 ∷ 0x2A ∷ 0x2C ∷ 0x2D ∷ 0x2E ∷ [])) level (counter3 ++ pmswinc) El2 FineGrained
    -- MODEL T4 before T5 and T6
    ∷ trapped ((0x26, 1) ∷ []) level counter4 El2 Mdcr2Tpm
    ∷ trapped (on (0x0A ∷ 0x26 ∷ 0x28 ∷ [])) level (counter3 ++ pmswinc) El2 Mdcr2Tpm
    -- MODEL T5 before T6
    ∷ trapped (on (0x0A ∷ 0x28 ∷ [])) level counter4 El2 Hpmn
    ∷ []

-- MODEL I2 to I4: each before those behind it, from a level
abbrev pub icntr_pairs : ℕ → List Example
icntr_pairs level =
    -- MODEL I2 before I3, I4, I5 and I6
    trapped (on (0x03 ∷ 0x05 ∷ 0x0A ∷ 0x29 ∷ [])) level pmicntr El2 FgtEn2
    ∷ trapped (on (0x03 ∷ 0x05 ∷ 0x0A ∷ 0x26 ∷ 0x29 ∷ 0x2F ∷ 0x30 ∷ [])) level pmicntr El2 FgtEn2
    ∷ trapped (on (0x03 ∷ 0x05 ∷ 0x0A ∷ 0x2F ∷ 0x30 ∷ [])) level pmicntr El2 FgtEn2
    ∷ trapped (on (0x03 ∷ 0x05 ∷ 0x0A ∷ 0x28 ∷ 0x29 ∷ 0x2F ∷ 0x30 ∷ [])) level pmicntr El2 FgtEn2
    -- MODEL I3 before I4, I5 and I6
    ∷ trapped (on (0x03 ∷ 0x05 ∷ 0x26 ∷ [])) level pmicntr El2 FineGrained
    ∷ trapped (on (0x03 ∷ 0x05 ∷ 0x0A ∷ 0x2B ∷ [])) level pmicntr El2 FineGrained
    ∷ trapped (on (0x03 ∷ 0x05 ∷ 0x0A ∷ 0x28 ∷ 0x29 ∷ 0x2B ∷ [])) level pmicntr El2 FineGrained
    -- MODEL I4 before I5 and I6
    ∷ trapped (on (0x03 ∷ 0x0A ∷ 0x26 ∷ [])) level pmicntr El2 Mdcr2Tpm
    ∷ trapped (on (0x03 ∷ 0x0A ∷ 0x26 ∷ 0x28 ∷ 0x29 ∷ [])) level pmicntr El2 Mdcr2Tpm
    ∷ []

-- MODEL I5: before I6, from a level
abbrev pub el3_pair : ℕ → Example
el3_pair level = trapped (on (0x03 ∷ 0x0A ∷ 0x28 ∷ [])) level pmicntr El3 EnPm2

-- MODEL N2 and N3: each before those behind it, from level 1
abbrev pub pmsicr_pairs : List Example
pmsicr_pairs =
    -- MODEL N2 before N3 and N4
    trapped (on (0x80 ∷ 0x86 ∷ 0x89 ∷ 0x8A ∷ [])) 1 pmsicr El2 FineGrained
    ∷ trapped (on (0x80 ∷ 0x0A ∷ 0x2A ∷ 0x89 ∷ 0x8A ∷ [])) 1 pmsicr El2 FineGrained
    -- MODEL N3 before N4
    ∷ trapped (on (0x80 ∷ 0x0A ∷ 0x86 ∷ [])) 1 pmsicr El2 Tpms
    ∷ []

-- MODEL P12: for D0 and D10, two controls closed, from each level at which both can stop the access: the one that is first in the
-- order is named
unfoldable pub pairs : List Example
pairs =
    disabled_pairs [] El1
    ++ disabled_pairs ((0x25, 1) ∷ []) El2
    ++ counter_pairs 0
    ++ counter_pairs 1
    ++ icntr_pairs 0
    ++ icntr_pairs 1
    ++ map el3_pair (0 ∷ 1 ∷ 2 ∷ [])
    ++ pmsicr_pairs
