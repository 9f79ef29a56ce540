-- Examples of what is undefined at once and of the order of traps of PMEVCNTR and PMSWINC, as data. Counter 3 is below HPMN,
-- counter 4 is at it.
use Rattle.std.specs.Prelude.{List, [], ◌∷◌}
use Rattle.answer.specs.declared.Answer.{Answer}
use Rattle.answer.specs.declared.Cause.TheVariants.{Pmuserenr, FineGrained, Mdcr2Tpm, Hpmn, Mdcr3Tpm}
use Rattle.answer.specs.declared.Level.TheVariants.{El1, El2, El3}
use Rattle.rules.specs.Example.{Example, on, counters_on, shows, answers, trap, gives, swinc, mrs3, msr3, mrs4}
use Rattle.rules.specs.Example.Action.{access}

-- MODEL P12: for U1 to U4 and T1 to T11
unfoldable pub trap_examples : List Example
trap_examples =
    -- MODEL W7: other words, PMCR_EL0 and an instruction that moves no system register
    answers [] 1 (access 0xD53B9C02 0) Answer.Other
    ∷ answers [] 1 (access 0xD503201F 0) Answer.Other
    -- MODEL U1, U3: without PMUv3. MODEL U4: MRS of PMSWINC. MODEL U2: also without FGT
    ∷ shows (counters_on ((0x00, 0) ∷ (0x01, 0) ∷ (0x02, 0) ∷ []))
    2
    (mrs3 ∷ swinc 1 ∷ [])
    (Answer.Undef ∷ Answer.Undef ∷ [])
    []
    ∷ answers [] 2 (access 0xD53B9C81 0) Answer.Undef
    ∷ answers ((0x04, 0) ∷ []) 2 (access 0xD53BE8C2 0) Answer.Undef
    -- MODEL T1: before T2; before T5; and with one of its conditions missing, where T5 decides
    ∷ answers ((0x20, 0) ∷ on (0x0A ∷ 0x0B ∷ 0x11 ∷ 0x12 ∷ 0x28 ∷ [])) 0 mrs3 Answer.Undef
    ∷ answers (on (0x0A ∷ 0x0B ∷ 0x11 ∷ 0x12 ∷ 0x28 ∷ [])) 1 mrs4 Answer.Undef
    ∷ answers (on (0x0B ∷ 0x11 ∷ 0x12 ∷ 0x28 ∷ [])) 1 mrs4 (trap El2 0x6238F851 Hpmn)
    ∷ answers (on (0x0A ∷ 0x11 ∷ 0x12 ∷ 0x28 ∷ [])) 1 mrs4 (trap El2 0x6238F851 Hpmn)
    ∷ answers (on (0x0A ∷ 0x0B ∷ 0x12 ∷ 0x28 ∷ [])) 1 mrs4 (trap El2 0x6238F851 Hpmn)
    ∷ answers (on (0x0A ∷ 0x0B ∷ 0x11 ∷ 0x28 ∷ [])) 1 mrs4 (trap El2 0x6238F851 Hpmn)
    ∷ answers (on (0x0A ∷ 0x0B ∷ 0x11 ∷ 0x12 ∷ [])) 1 mrs4 (trap El2 0x6238F851 Hpmn)
    -- MODEL T2, T7: EN and ER 0; ER lets a read pass and no write; UEN enables nothing; TGE counts with EL2 enabled only
    ∷ answers ((0x20, 0) ∷ []) 0 mrs3 (trap El1 0x6236F851 Pmuserenr)
    ∷ shows ((0x20, 0) ∷ (0x22, 1) ∷ (0x63, 9) ∷ []) 0 (mrs3 ∷ msr3 5 ∷ []) (gives 9 ∷ trap El1 0x6236F850 Pmuserenr ∷ []) []
    ∷ shows (counters_on ((0x20, 0) ∷ (0x23, 1) ∷ []))
    0
    (mrs3 ∷ msr3 5 ∷ swinc 8 ∷ [])
    (trap El1 0x6236F851 Pmuserenr ∷ trap El1 0x6236F850 Pmuserenr ∷ trap El1 0x6238E438 Pmuserenr ∷ [])
    []
    ∷ answers ((0x20, 0) ∷ (0x25, 1) ∷ (0x10, 0) ∷ []) 0 mrs3 (trap El1 0x6236F851 Pmuserenr)
    -- MODEL T2: before T3, T4 and T5; not at level 1
    ∷ answers ((0x20, 0) ∷ (0x2C, 1) ∷ (0x26, 1) ∷ []) 0 mrs4 (trap El1 0x6238F851 Pmuserenr)
    ∷ answers ((0x20, 0) ∷ (0x63, 9) ∷ []) 1 mrs3 (gives 9)
    -- MODEL T3, T8: each bit for its own access
    ∷ shows (counters_on ((0x2C, 1) ∷ []))
    1
    (mrs3 ∷ msr3 5 ∷ swinc 8 ∷ [])
    (trap El2 0x6236F851 FineGrained ∷ Answer.Ok ∷ Answer.Ok ∷ [])
    ((0x63, 6) ∷ [])
    ∷ shows (counters_on ((0x2D, 1) ∷ (0x63, 9) ∷ []))
    1
    (mrs3 ∷ msr3 5 ∷ swinc 8 ∷ [])
    (gives 9 ∷ trap El2 0x6236F850 FineGrained ∷ Answer.Ok ∷ [])
    ((0x63, 10) ∷ [])
    ∷ shows (counters_on ((0x2E, 1) ∷ (0x63, 9) ∷ []))
    1
    (mrs3 ∷ msr3 5 ∷ swinc 8 ∷ [])
    (gives 9 ∷ Answer.Ok ∷ trap El2 0x6238E438 FineGrained ∷ [])
    ((0x63, 5) ∷ [])
    -- MODEL T3: with EL3 it needs FGTEn; not without FGT, not while EL2 is not enabled, not at level 2
    ∷ answers ((0x2C, 1) ∷ (0x0A, 1) ∷ (0x63, 9) ∷ []) 1 mrs3 (gives 9)
    ∷ answers (on (0x2C ∷ 0x0A ∷ 0x2A ∷ [])) 1 mrs3 (trap El2 0x6236F851 FineGrained)
    ∷ answers ((0x2C, 1) ∷ (0x04, 0) ∷ (0x63, 9) ∷ []) 1 mrs3 (gives 9)
    ∷ answers ((0x2C, 1) ∷ (0x10, 0) ∷ (0x63, 9) ∷ []) 1 mrs3 (gives 9)
    ∷ answers ((0x2C, 1) ∷ (0x63, 9) ∷ []) 2 mrs3 (gives 9)
    -- MODEL T9: level 0 is exempt with E2H and TGE, and not with one of them
    ∷ answers ((0x2C, 1) ∷ []) 0 mrs3 (trap El2 0x6236F851 FineGrained)
    ∷ answers ((0x2C, 1) ∷ (0x24, 1) ∷ []) 0 mrs3 (trap El2 0x6236F851 FineGrained)
    ∷ answers ((0x2C, 1) ∷ (0x25, 1) ∷ []) 0 mrs3 (trap El2 0x6236F851 FineGrained)
    ∷ answers ((0x63, 9) ∷ on (0x2C ∷ 0x24 ∷ 0x25 ∷ [])) 0 mrs3 (gives 9)
    -- MODEL T4: both registers, at levels 0 and 1; before T6; not while EL2 is not enabled, not at level 2
    ∷ shows (counters_on ((0x26, 1) ∷ []))
    1
    (mrs3 ∷ swinc 8 ∷ [])
    (trap El2 0x6236F851 Mdcr2Tpm ∷ trap El2 0x6238E438 Mdcr2Tpm ∷ [])
    []
    ∷ answers ((0x26, 1) ∷ []) 0 mrs3 (trap El2 0x6236F851 Mdcr2Tpm)
    ∷ answers (on (0x26 ∷ 0x0A ∷ 0x28 ∷ [])) 1 mrs3 (trap El2 0x6236F851 Mdcr2Tpm)
    ∷ answers ((0x26, 1) ∷ (0x10, 0) ∷ (0x63, 9) ∷ []) 1 mrs3 (gives 9)
    ∷ answers ((0x26, 1) ∷ (0x63, 9) ∷ []) 2 mrs3 (gives 9)
    -- MODEL T5: at level 0; without FGT
    ∷ answers [] 0 mrs4 (trap El2 0x6238F851 Hpmn)
    ∷ answers ((0x04, 0) ∷ []) 1 mrs4 (trap El2 0x6238F851 Hpmn)
    -- MODEL T6, T10: at levels 0 to 2; undefined where Halted and SDD are 1, and not where Halted alone is; not without EL3
    ∷ answers ((0x0A, 1) ∷ (0x28, 1) ∷ []) 0 mrs3 (trap El3 0x6236F851 Mdcr3Tpm)
    ∷ answers ((0x0A, 1) ∷ (0x28, 1) ∷ []) 1 mrs3 (trap El3 0x6236F851 Mdcr3Tpm)
    ∷ answers ((0x0A, 1) ∷ (0x28, 1) ∷ []) 2 mrs3 (trap El3 0x6236F851 Mdcr3Tpm)
    ∷ answers (on (0x0A ∷ 0x11 ∷ 0x12 ∷ 0x28 ∷ [])) 2 mrs3 Answer.Undef
    ∷ answers (on (0x0A ∷ 0x11 ∷ 0x28 ∷ [])) 2 mrs3 (trap El3 0x6236F851 Mdcr3Tpm)
    ∷ answers ((0x28, 1) ∷ (0x63, 9) ∷ []) 1 mrs3 (gives 9)
    -- MODEL T1 to T6: none is for level 3
    ∷ shows (counters_on ((0x20, 0) ∷ (0x65, 9) ∷ on (0x0A ∷ 0x0B ∷ 0x11 ∷ 0x12 ∷ 0x26 ∷ 0x28 ∷ 0x2A ∷ 0x2C ∷ 0x2E ∷ [])))
    3
    (access 0xD53BE8A2 0 ∷ swinc 32 ∷ [])
    (gives 9 ∷ Answer.Ok ∷ [])
    ((0x65, 10) ∷ [])
    ∷ []
