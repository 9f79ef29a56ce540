-- Examples of the order of traps of PMICNTR, as data.
use Rattle.std.specs.Prelude.{List, [], ◌∷◌}
use Rattle.answer.specs.declared.Answer.{Answer}
use Rattle.answer.specs.declared.Cause.TheVariants.{FineGrained, Mdcr2Tpm, Mdcr3Tpm, EnPm2, FgtEn2}
use Rattle.answer.specs.declared.Level.TheVariants.{El2, El3}
use Rattle.rules.specs.Example.{Example, on, shows, answers, changes, trap, gives, mrs_icntr, msr_icntr}

-- MODEL P12: for U5, I1 to I8 and T9
unfoldable pub icntr_examples : List Example
icntr_examples =
    -- MODEL U5: without ICNTR
    answers [] 2 mrs_icntr Answer.Undef
    -- MODEL I1: by EnPM2, by TPM; and with one of its conditions missing, where I4 decides
    ∷ answers (on (0x03 ∷ 0x0A ∷ 0x0B ∷ 0x11 ∷ 0x12 ∷ 0x26 ∷ [])) 1 mrs_icntr Answer.Undef
    ∷ answers (on (0x03 ∷ 0x0A ∷ 0x0B ∷ 0x11 ∷ 0x12 ∷ 0x26 ∷ 0x28 ∷ 0x29 ∷ [])) 1 mrs_icntr Answer.Undef
    ∷ answers (on (0x03 ∷ 0x0B ∷ 0x11 ∷ 0x12 ∷ 0x26 ∷ [])) 1 mrs_icntr (trap El2 0x6230E449 Mdcr2Tpm)
    ∷ answers (on (0x03 ∷ 0x0A ∷ 0x11 ∷ 0x12 ∷ 0x26 ∷ [])) 1 mrs_icntr (trap El2 0x6230E449 Mdcr2Tpm)
    ∷ answers (on (0x03 ∷ 0x0A ∷ 0x0B ∷ 0x12 ∷ 0x26 ∷ [])) 1 mrs_icntr (trap El2 0x6230E449 Mdcr2Tpm)
    ∷ answers (on (0x03 ∷ 0x0A ∷ 0x0B ∷ 0x11 ∷ 0x26 ∷ [])) 1 mrs_icntr (trap El2 0x6230E449 Mdcr2Tpm)
    ∷ answers (on (0x03 ∷ 0x0A ∷ 0x0B ∷ 0x11 ∷ 0x12 ∷ 0x26 ∷ 0x29 ∷ [])) 1 mrs_icntr (trap El2 0x6230E449 Mdcr2Tpm)
    -- MODEL I2: FGTEn2 0; not with FGTEn2 1, not without FGT2, not while EL2 is not enabled, not at level 2
    ∷ answers (on (0x03 ∷ 0x05 ∷ 0x0A ∷ 0x29 ∷ 0x2F ∷ [])) 1 mrs_icntr (trap El2 0x6230E449 FgtEn2)
    ∷ answers ((0x7F, 5) ∷ on (0x03 ∷ 0x05 ∷ 0x0A ∷ 0x29 ∷ 0x2F ∷ 0x2B ∷ [])) 1 mrs_icntr (gives 5)
    ∷ answers ((0x7F, 5) ∷ on (0x03 ∷ 0x0A ∷ 0x29 ∷ 0x2F ∷ [])) 1 mrs_icntr (gives 5)
    ∷ answers ((0x10, 0) ∷ (0x7F, 5) ∷ on (0x03 ∷ 0x05 ∷ 0x0A ∷ 0x29 ∷ 0x2F ∷ [])) 1 mrs_icntr (gives 5)
    ∷ answers ((0x7F, 5) ∷ on (0x03 ∷ 0x05 ∷ 0x0A ∷ 0x29 ∷ 0x2F ∷ [])) 2 mrs_icntr (gives 5)
    -- MODEL I3, I7: each bit for its direction; not while EL2 is not enabled, not at level 2
    ∷ shows ((0x7F, 5) ∷ on (0x03 ∷ 0x05 ∷ 0x2F ∷ []))
    1
    (mrs_icntr ∷ msr_icntr 7 ∷ [])
    (gives 5 ∷ trap El2 0x6230E448 FineGrained ∷ [])
    []
    ∷ shows ((0x7F, 5) ∷ on (0x03 ∷ 0x05 ∷ 0x30 ∷ []))
    1
    (mrs_icntr ∷ msr_icntr 7 ∷ [])
    (trap El2 0x6230E449 FineGrained ∷ Answer.Ok ∷ [])
    ((0x7F, 7) ∷ [])
    ∷ answers ((0x03, 1) ∷ (0x05, 1) ∷ (0x10, 0) ∷ (0x7F, 5) ∷ []) 1 mrs_icntr (gives 5)
    ∷ answers ((0x03, 1) ∷ (0x05, 1) ∷ (0x7F, 5) ∷ []) 2 mrs_icntr (gives 5)
    -- MODEL T9: level 0 is exempt from I2 and from I3 with E2H and TGE, and not with TGE alone
    ∷ answers (on (0x03 ∷ 0x05 ∷ 0x0A ∷ 0x29 ∷ 0x2F ∷ 0x33 ∷ 0x25 ∷ [])) 0 mrs_icntr (trap El2 0x6230E449 FgtEn2)
    ∷ answers ((0x7F, 5) ∷ on (0x03 ∷ 0x05 ∷ 0x0A ∷ 0x29 ∷ 0x2F ∷ 0x33 ∷ 0x24 ∷ 0x25 ∷ [])) 0 mrs_icntr (gives 5)
    ∷ answers (on (0x03 ∷ 0x05 ∷ 0x33 ∷ 0x25 ∷ [])) 0 mrs_icntr (trap El2 0x6230E449 FineGrained)
    ∷ answers ((0x7F, 5) ∷ on (0x03 ∷ 0x05 ∷ 0x33 ∷ 0x24 ∷ 0x25 ∷ [])) 0 mrs_icntr (gives 5)
    -- MODEL I4: at levels 0 and 1; before I5; not while EL2 is not enabled, not at level 2
    ∷ answers ((0x03, 1) ∷ (0x26, 1) ∷ []) 1 mrs_icntr (trap El2 0x6230E449 Mdcr2Tpm)
    ∷ answers (on (0x03 ∷ 0x26 ∷ 0x33 ∷ [])) 0 mrs_icntr (trap El2 0x6230E449 Mdcr2Tpm)
    ∷ answers (on (0x03 ∷ 0x0A ∷ 0x26 ∷ [])) 1 mrs_icntr (trap El2 0x6230E449 Mdcr2Tpm)
    ∷ answers ((0x03, 1) ∷ (0x26, 1) ∷ (0x10, 0) ∷ (0x7F, 5) ∷ []) 1 mrs_icntr (gives 5)
    ∷ answers ((0x03, 1) ∷ (0x26, 1) ∷ (0x7F, 5) ∷ []) 2 mrs_icntr (gives 5)
    -- MODEL I5, I6, T10: at levels 0 to 2; undefined where Halted and SDD are 1; not without EL3
    ∷ answers (on (0x03 ∷ 0x0A ∷ 0x33 ∷ [])) 0 mrs_icntr (trap El3 0x6230E449 EnPm2)
    ∷ answers (on (0x03 ∷ 0x0A ∷ 0x33 ∷ [])) 1 mrs_icntr (trap El3 0x6230E449 EnPm2)
    ∷ answers (on (0x03 ∷ 0x0A ∷ 0x33 ∷ [])) 2 mrs_icntr (trap El3 0x6230E449 EnPm2)
    ∷ answers (on (0x03 ∷ 0x0A ∷ 0x28 ∷ 0x29 ∷ 0x33 ∷ [])) 0 mrs_icntr (trap El3 0x6230E449 Mdcr3Tpm)
    ∷ answers (on (0x03 ∷ 0x0A ∷ 0x28 ∷ 0x29 ∷ 0x33 ∷ [])) 1 mrs_icntr (trap El3 0x6230E449 Mdcr3Tpm)
    ∷ answers (on (0x03 ∷ 0x0A ∷ 0x28 ∷ 0x29 ∷ 0x33 ∷ [])) 2 mrs_icntr (trap El3 0x6230E449 Mdcr3Tpm)
    ∷ answers (on (0x03 ∷ 0x0A ∷ 0x11 ∷ 0x12 ∷ [])) 2 mrs_icntr Answer.Undef
    ∷ answers (on (0x03 ∷ 0x0A ∷ 0x11 ∷ 0x12 ∷ 0x28 ∷ 0x29 ∷ [])) 2 mrs_icntr Answer.Undef
    ∷ answers ((0x03, 1) ∷ (0x28, 1) ∷ (0x7F, 5) ∷ []) 1 mrs_icntr (gives 5)
    -- MODEL I1 to I6: none is for level 3. MODEL I8: EN 0 stops nothing
    ∷ answers ((0x7F, 5) ∷ on (0x03 ∷ 0x05 ∷ 0x0A ∷ 0x0B ∷ 0x11 ∷ 0x12 ∷ 0x26 ∷ 0x28 ∷ [])) 3 mrs_icntr (gives 5)
    ∷ changes ((0x03, 1) ∷ (0x33, 1) ∷ (0x20, 0) ∷ []) 0 (msr_icntr 7) ((0x7F, 7) ∷ [])
    ∷ []
