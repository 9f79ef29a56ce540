-- Worked examples as data: `worked` is the table of MODEL P1 to P11 (document 01: soundings), and `misreadings` has
-- those for the wrong readings MODEL Q2 to Q5; that for Q1 is P9.
use Rattle.std.specs.Prelude.{false, List, [], ◌∷◌}
use Rattle.answer.specs.declared.Answer.{Answer}
use Rattle.answer.specs.declared.Cause.TheVariants.{Pmuserenr, FineGrained, Hpmn, Mdcr3Tpm, EnPm2, FgtEn2, Tpms}
use Rattle.answer.specs.declared.Level.TheVariants.{El1, El2, El3}
use Rattle.answer.specs.declared.Refusal.TheVariants.{HpmnAboveN}
use Rattle.rules.specs.Example.{Example, on, counters_on, shows, answers, changes, trap, gives}
use Rattle.rules.specs.Example.{swinc, mrs3, msr3, mrs4, mrs_icntr, msr_icntr, mrs_sicr, profiling_on}
use Rattle.rules.specs.Example.Action.{access, read, write, ticks, members, sets}

-- MODEL P1 to P11. Where the table gives no value, the counters that are read, and those that a counter write must leave alone,
-- hold one; in the second half of P10 so does the instruction counter
unfoldable pub worked : List Example
worked =
    -- MODEL P1
    answers [] 1 (access 0xD53BE882 0) (trap El2 0x6238F851 Hpmn)
    -- MODEL P2
    ∷ answers [] 1 (access 0xD53BE8A2 0) (trap El2 0x623AF851 Hpmn)
    ∷ answers ((0x65, 41) ∷ []) 2 (access 0xD53BE8A2 0) (gives 41)
    -- MODEL P3
    ∷ answers [] 2 (access 0xD53BE8C2 0) Answer.Undef
    -- MODEL P4
    ∷ shows ((0x23, 1) ∷ (0x63, 9) ∷ []) 0 (mrs3 ∷ msr3 5 ∷ []) (gives 0 ∷ Answer.Ok ∷ []) []
    -- MODEL P5
    ∷ answers ((0x23, 1) ∷ (0x22, 1) ∷ (0x32, 8) ∷ (0x63, 9) ∷ []) 0 (msr3 5) Answer.Ok
    -- MODEL P6
    ∷ changes (counters_on []) 1 (swinc 0x18) ((0x63, 1) ∷ [])
    ∷ changes (counters_on []) 2 (swinc 0x18) ((0x63, 1) ∷ (0x64, 1) ∷ [])
    -- MODEL P7
    ∷ changes (counters_on ((0x60, 0xFFFFFFFF) ∷ [])) 1 (swinc 1) ((0x60, 0x100000000) ∷ (0x37, 1) ∷ [])
    ∷ changes (counters_on ((0x01, 0) ∷ (0x02, 0) ∷ (0x60, 0xFFFFFFFF) ∷ [])) 1 (swinc 1) ((0x60, 0) ∷ (0x37, 1) ∷ [])
    -- MODEL P8
    ∷ answers ((0x20, 0) ∷ []) 0 (access 0xD51B9C81 0) (trap El1 0x6238E438 Pmuserenr)
    ∷ answers ((0x20, 0) ∷ (0x25, 1) ∷ []) 0 (access 0xD51B9C81 0) (trap El2 0x6238E438 Pmuserenr)
    -- MODEL P9
    ∷ changes (counters_on ((0x23, 1) ∷ (0x21, 1) ∷ (0x20, 0) ∷ [])) 0 (swinc 8) ((0x63, 1) ∷ [])
    -- MODEL P10
    ∷ answers ((0x27, 6) ∷ (0x64, 7) ∷ []) 1 mrs4 (gives 7)
    ∷ answers ((0x27, 7) ∷ (0x7F, 5) ∷ []) 1 mrs4 (Answer.Refused HpmnAboveN)
    -- MODEL P11
    ∷ shows [] 0 (write 0xC00 0x1FFFFFFFF ∷ read 0xC00 ∷ []) (Answer.Ok ∷ Answer.Value 0x8000003F ∷ []) ((0x34, 0x8000003F) ∷ [])
    ∷ shows ((0x03, 1) ∷ [])
    0
    (write 0xC00 0x1FFFFFFFF ∷ read 0xC00 ∷ [])
    (Answer.Ok ∷ Answer.Value 0x18000003F ∷ [])
    ((0x34, 0x18000003F) ∷ [])
    ∷ []

-- MODEL Q1 to Q5: examples that tell the wrong readings from the rules: here those for Q2 to Q5; that for Q1 is P9, above
unfoldable pub misreadings : List Example
misreadings =
    -- MODEL Q2: from HPMN on a counter traps to EL2, and below it to EL3
    shows ((0x0A, 1) ∷ (0x28, 1) ∷ []) 1 (mrs4 ∷ mrs3 ∷ []) (trap El2 0x6238F851 Hpmn ∷ trap El3 0x6236F851 Mdcr3Tpm ∷ []) []
    -- MODEL Q2: a bit of PMSWINC at HPMN or above is ignored and does not trap
    ∷ answers (counters_on []) 0 (swinc 0x10) Answer.Ok
    -- MODEL Q3: HPMN does not count while EL2 is not enabled, for an access or for a bit of PMSWINC
    ∷ shows (counters_on ((0x10, 0) ∷ (0x65, 41) ∷ []))
    1
    (access 0xD53BE8A2 0 ∷ swinc 0x20 ∷ [])
    (gives 41 ∷ Answer.Ok ∷ [])
    ((0x65, 42) ∷ [])
    -- MODEL Q4: PMUACR does not bind level 1: a read, a write and an increment of a counter, and PMICNTR
    ∷ shows (counters_on ((0x23, 1) ∷ (0x63, 9) ∷ []))
    1
    (mrs3 ∷ msr3 5 ∷ swinc 8 ∷ [])
    (gives 9 ∷ Answer.Ok ∷ Answer.Ok ∷ [])
    ((0x63, 6) ∷ [])
    ∷ shows ((0x03, 1) ∷ (0x7F, 5) ∷ []) 1 (mrs_icntr ∷ msr_icntr 7 ∷ []) (gives 5 ∷ Answer.Ok ∷ []) ((0x7F, 7) ∷ [])
    -- MODEL Q5: a register whose reserved bits alone are 1 is zero when profiling begins, with ERnd and without it; and a
    -- secondary counter that is reserved loses nothing and selects nothing
    ∷ changes ((0x80, 1) ∷ (0x8B, 9) ∷ (0x8C, 0x01FFFFFF00000000) ∷ [])
    1
    (sets 0x83 1)
    (profiling_on ((0x8C, 0x01FFFFFF00000009) ∷ []))
    ∷ changes ((0x80, 1) ∷ (0x81, 1) ∷ (0x8B, 9) ∷ (0x8C, 0x00FFFFFF00000000) ∷ [])
    1
    (sets 0x83 1)
    (profiling_on ((0x8C, 0x00FFFFFF00000009) ∷ []))
    ∷ changes (profiling_on ((0x8C, 0x0100000000000003) ∷ [])) 1 (members 5) ((0x8C, 0x0100000000000002) ∷ [])
    ∷ []

-- MODEL P12: examples that tell wrong definitions which neither the worked examples nor a law of this crate tells: the order and
-- the causes of PMICNTR, the order of PMSICR and where it leads, T1 before T2, the fine-grained bit of PMSWINC, and a tick
-- without E
unfoldable pub telling : List Example
telling =
    -- MODEL T1: before T2
    answers ((0x20, 0) ∷ on (0x0A ∷ 0x0B ∷ 0x11 ∷ 0x12 ∷ 0x28 ∷ [])) 0 mrs3 Answer.Undef
    -- MODEL T8: the bit of PMSWINC traps it, and that of counter writes does not
    ∷ answers (on (0x2E ∷ [])) 1 (swinc 8) (trap El2 0x6238E438 FineGrained)
    ∷ answers (on (0x2D ∷ [])) 1 (swinc 8) Answer.Ok
    -- MODEL I1: before I4. MODEL I2, I3 and I5, with their causes
    ∷ answers (on (0x03 ∷ 0x0A ∷ 0x0B ∷ 0x11 ∷ 0x12 ∷ 0x26 ∷ [])) 1 mrs_icntr Answer.Undef
    ∷ answers (on (0x03 ∷ 0x05 ∷ 0x0A ∷ 0x29 ∷ 0x2F ∷ [])) 1 mrs_icntr (trap El2 0x6230E449 FgtEn2)
    ∷ answers (on (0x03 ∷ 0x05 ∷ [])) 1 mrs_icntr (trap El2 0x6230E449 FineGrained)
    ∷ answers (on (0x03 ∷ 0x0A ∷ [])) 1 mrs_icntr (trap El3 0x6230E449 EnPm2)
    -- MODEL N3: before N4. MODEL N5: open by 1 while NS is 0. MODEL G15: NV alone leads nowhere else
    ∷ answers (on (0x80 ∷ 0x0A ∷ 0x86 ∷ [])) 1 mrs_sicr (trap El2 0x62342453 Tpms)
    ∷ answers ((0x88, 1) ∷ (0x8C, 5) ∷ on (0x80 ∷ 0x0A ∷ [])) 1 mrs_sicr (gives 5)
    ∷ answers ((0x8C, 5) ∷ on (0x80 ∷ 0x84 ∷ [])) 1 mrs_sicr (gives 5)
    -- MODEL K1: E is 0
    ∷ changes ((0x03, 1) ∷ (0x34, 0x100000000) ∷ []) 1 (ticks false) ((0x7F, 1) ∷ [])
    ∷ []
