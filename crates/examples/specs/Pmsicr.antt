-- Examples of accesses to PMSICR, as data. The register is 8C, the word at 0x838 is 8D.
use Rattle.std.specs.Prelude.{List, [], ◌∷◌}
use Rattle.answer.specs.declared.Answer.{Answer}
use Rattle.answer.specs.declared.Cause.TheVariants.{FineGrained, Tpms, Nspb}
use Rattle.answer.specs.declared.Level.TheVariants.{El2, El3}
use Rattle.answer.specs.declared.Refusal.TheVariants.{TgeAtEl1}
use Rattle.rules.specs.Example.{Example, on, shows, answers, changes, trap, gives, mrs_sicr, msr_sicr}
use Rattle.rules.specs.Example.Action.{access}

-- MODEL P12: for W12, U6, U7, N1 to N7 and T10
unfoldable pub pmsicr_traps : List Example
pmsicr_traps =
    -- MODEL W12, W7: with op1 3 the word is none of the model's, and PMICNTR's with op1 0 neither
    answers (on (0x80 ∷ [])) 1 (access 0xD53B9942 0) Answer.Other
    ∷ answers (on (0x03 ∷ [])) 1 (access 0xD5389402 0) Answer.Other
    -- MODEL U6: without SPE, at levels 2 and 3
    ∷ answers [] 2 mrs_sicr Answer.Undef
    ∷ answers (on (0x0A ∷ [])) 3 (msr_sicr 5) Answer.Undef
    -- MODEL U7: at level 0, whatever else there is
    ∷ answers (on (0x80 ∷ [])) 0 mrs_sicr Answer.Undef
    ∷ answers (on (0x80 ∷ [])) 0 (msr_sicr 5) Answer.Undef
    ∷ answers (on (0x80 ∷ 0x89 ∷ 0x86 ∷ 0x24 ∷ 0x25 ∷ [])) 0 mrs_sicr Answer.Undef
    -- MODEL N1: at levels 1 and 2; and with one of its conditions missing, where N3 decides
    ∷ answers (on (0x80 ∷ 0x0A ∷ 0x0B ∷ 0x11 ∷ 0x12 ∷ 0x86 ∷ [])) 1 mrs_sicr Answer.Undef
    ∷ answers (on (0x80 ∷ 0x0A ∷ 0x0B ∷ 0x11 ∷ 0x12 ∷ 0x86 ∷ [])) 2 mrs_sicr Answer.Undef
    ∷ answers (on (0x80 ∷ 0x0B ∷ 0x11 ∷ 0x12 ∷ 0x86 ∷ [])) 1 mrs_sicr (trap El2 0x62342453 Tpms)
    ∷ answers (on (0x80 ∷ 0x0A ∷ 0x11 ∷ 0x12 ∷ 0x86 ∷ [])) 1 mrs_sicr (trap El2 0x62342453 Tpms)
    ∷ answers (on (0x80 ∷ 0x0A ∷ 0x0B ∷ 0x12 ∷ 0x86 ∷ [])) 1 mrs_sicr (trap El2 0x62342453 Tpms)
    ∷ answers (on (0x80 ∷ 0x0A ∷ 0x0B ∷ 0x11 ∷ 0x86 ∷ [])) 1 mrs_sicr (trap El2 0x62342453 Tpms)
    ∷ answers (on (0x80 ∷ 0x0A ∷ 0x0B ∷ 0x11 ∷ 0x12 ∷ 0x86 ∷ 0x88 ∷ [])) 1 mrs_sicr (trap El2 0x62342453 Tpms)
    -- MODEL N2, N6: each bit for its direction; before N3
    ∷ shows ((0x8C, 5) ∷ on (0x80 ∷ 0x89 ∷ []))
    1
    (mrs_sicr ∷ msr_sicr 7 ∷ [])
    (trap El2 0x62342453 FineGrained ∷ Answer.Ok ∷ [])
    ((0x8C, 7) ∷ [])
    ∷ shows ((0x8C, 5) ∷ on (0x80 ∷ 0x8A ∷ []))
    1
    (mrs_sicr ∷ msr_sicr 7 ∷ [])
    (gives 5 ∷ trap El2 0x62342452 FineGrained ∷ [])
    []
    ∷ answers (on (0x80 ∷ 0x89 ∷ 0x86 ∷ [])) 1 mrs_sicr (trap El2 0x62342453 FineGrained)
    -- MODEL N2: with EL3, where NSPB is open, FGTEn is asked for; not without FGT, not while EL2 is not enabled, not at level 2
    ∷ answers (on (0x80 ∷ 0x89 ∷ 0x0A ∷ 0x88 ∷ 0x2A ∷ [])) 1 mrs_sicr (trap El2 0x62342453 FineGrained)
    ∷ answers ((0x8C, 5) ∷ on (0x80 ∷ 0x89 ∷ 0x0A ∷ 0x88 ∷ [])) 1 mrs_sicr (gives 5)
    ∷ answers ((0x04, 0) ∷ (0x8C, 5) ∷ on (0x80 ∷ 0x89 ∷ [])) 1 mrs_sicr (gives 5)
    ∷ answers ((0x10, 0) ∷ (0x8C, 5) ∷ on (0x80 ∷ 0x89 ∷ [])) 1 mrs_sicr (gives 5)
    ∷ answers ((0x8C, 5) ∷ on (0x80 ∷ 0x89 ∷ [])) 2 mrs_sicr (gives 5)
    -- MODEL N3: before N4; not while EL2 is not enabled, not at level 2
    ∷ answers (on (0x80 ∷ 0x86 ∷ [])) 1 (msr_sicr 7) (trap El2 0x62342452 Tpms)
    ∷ answers (on (0x80 ∷ 0x86 ∷ 0x0A ∷ [])) 1 mrs_sicr (trap El2 0x62342453 Tpms)
    ∷ answers ((0x10, 0) ∷ (0x8C, 5) ∷ on (0x80 ∷ 0x86 ∷ [])) 1 mrs_sicr (gives 5)
    ∷ answers ((0x8C, 5) ∷ on (0x80 ∷ 0x86 ∷ [])) 2 mrs_sicr (gives 5)
    -- MODEL N4, N5: each value of NSPB, with NS 0 and with NS 1, at levels 1 and 2
    ∷ answers (on (0x80 ∷ 0x0A ∷ [])) 1 mrs_sicr (trap El3 0x62342453 Nspb)
    ∷ answers ((0x88, 1) ∷ (0x8C, 5) ∷ on (0x80 ∷ 0x0A ∷ [])) 1 mrs_sicr (gives 5)
    ∷ answers ((0x88, 2) ∷ on (0x80 ∷ 0x0A ∷ [])) 2 mrs_sicr (trap El3 0x62342453 Nspb)
    ∷ answers ((0x88, 3) ∷ on (0x80 ∷ 0x0A ∷ [])) 1 mrs_sicr (trap El3 0x62342453 Nspb)
    ∷ answers ((0x88, 0) ∷ on (0x80 ∷ 0x0A ∷ 0x87 ∷ [])) 2 mrs_sicr (trap El3 0x62342453 Nspb)
    ∷ answers ((0x88, 1) ∷ on (0x80 ∷ 0x0A ∷ 0x87 ∷ [])) 1 (msr_sicr 7) (trap El3 0x62342452 Nspb)
    ∷ answers ((0x88, 2) ∷ on (0x80 ∷ 0x0A ∷ 0x87 ∷ [])) 1 mrs_sicr (trap El3 0x62342453 Nspb)
    ∷ answers ((0x88, 3) ∷ (0x8C, 5) ∷ on (0x80 ∷ 0x0A ∷ 0x87 ∷ [])) 2 mrs_sicr (gives 5)
    -- MODEL N4, T10: undefined where Halted and SDD are 1; not without EL3
    ∷ answers (on (0x80 ∷ 0x0A ∷ 0x11 ∷ 0x12 ∷ [])) 2 mrs_sicr Answer.Undef
    ∷ answers (on (0x80 ∷ 0x0A ∷ 0x11 ∷ [])) 2 mrs_sicr (trap El3 0x62342453 Nspb)
    ∷ answers ((0x8C, 5) ∷ on (0x80 ∷ [])) 1 mrs_sicr (gives 5)
    -- MODEL N1 to N4: none is for level 3
    ∷ answers ((0x8C, 5) ∷ on (0x80 ∷ 0x0A ∷ 0x0B ∷ 0x11 ∷ 0x12 ∷ 0x2A ∷ 0x86 ∷ 0x89 ∷ [])) 3 mrs_sicr (gives 5)
    -- MODEL N7: either TPM and EN stop nothing; E2H exempts nobody, and with TGE level 1 is refused
    ∷ answers ((0x20, 0) ∷ (0x88, 1) ∷ (0x8C, 5) ∷ on (0x80 ∷ 0x0A ∷ 0x26 ∷ 0x28 ∷ [])) 1 mrs_sicr (gives 5)
    ∷ answers (on (0x80 ∷ 0x24 ∷ 0x89 ∷ [])) 1 mrs_sicr (trap El2 0x62342453 FineGrained)
    ∷ answers (on (0x80 ∷ 0x24 ∷ 0x25 ∷ 0x89 ∷ [])) 1 mrs_sicr (Answer.Refused TgeAtEl1)
    ∷ []

-- MODEL P12: for G15, G16 and J3
unfoldable pub pmsicr_permitted : List Example
pmsicr_permitted =
    -- MODEL G15: NV and NV2 at level 1; NV alone, NV2 alone; not while EL2 is not enabled, not at level 2
    shows ((0x8C, 5) ∷ (0x8D, 6) ∷ on (0x80 ∷ 0x84 ∷ 0x85 ∷ []))
    1
    (mrs_sicr ∷ msr_sicr 7 ∷ mrs_sicr ∷ [])
    (gives 6 ∷ Answer.Ok ∷ gives 7 ∷ [])
    ((0x8D, 7) ∷ [])
    ∷ answers ((0x8C, 5) ∷ (0x8D, 6) ∷ on (0x80 ∷ 0x84 ∷ [])) 1 mrs_sicr (gives 5)
    ∷ answers ((0x8C, 5) ∷ (0x8D, 6) ∷ on (0x80 ∷ 0x85 ∷ [])) 1 mrs_sicr (gives 5)
    ∷ answers ((0x10, 0) ∷ (0x8C, 5) ∷ (0x8D, 6) ∷ on (0x80 ∷ 0x84 ∷ 0x85 ∷ [])) 1 mrs_sicr (gives 5)
    ∷ changes ((0x8C, 5) ∷ (0x8D, 6) ∷ on (0x80 ∷ 0x84 ∷ 0x85 ∷ [])) 2 (msr_sicr 7) ((0x8C, 7) ∷ [])
    -- MODEL G15: where it is trapped, the word is out of reach too
    ∷ answers ((0x8D, 6) ∷ on (0x80 ∷ 0x84 ∷ 0x85 ∷ 0x86 ∷ [])) 1 (msr_sicr 7) (trap El2 0x62342452 Tpms)
    -- MODEL G16, J3: reserved bits that were set read as 0, without ERnd 63:56 too
    ∷ answers ((0x80, 1) ∷ (0x8C, 0xFFFFFFFFFFFFFFFF) ∷ []) 2 mrs_sicr (gives 0xFFFFFFFF)
    ∷ answers ((0x80, 1) ∷ (0x81, 1) ∷ (0x8C, 0xFFFFFFFFFFFFFFFF) ∷ []) 2 mrs_sicr (gives 0xFF000000FFFFFFFF)
    -- MODEL G16: MSR makes them 0, those that were set too
    ∷ changes ((0x80, 1) ∷ []) 2 (msr_sicr 0xFFFFFFFFFFFFFFFF) ((0x8C, 0xFFFFFFFF) ∷ [])
    ∷ changes ((0x80, 1) ∷ (0x81, 1) ∷ []) 2 (msr_sicr 0xFFFFFFFFFFFFFFFF) ((0x8C, 0xFF000000FFFFFFFF) ∷ [])
    ∷ changes ((0x80, 1) ∷ (0x8C, 0xFFFFFFFFFFFFFFFF) ∷ []) 2 (msr_sicr 7) ((0x8C, 7) ∷ [])
    -- MODEL G16: the word at 0x838 has all its bits
    ∷ shows ((0x80, 1) ∷ (0x84, 1) ∷ (0x85, 1) ∷ [])
    1
    (msr_sicr 0xFEDCBA9876543210 ∷ mrs_sicr ∷ [])
    (Answer.Ok ∷ gives 0xFEDCBA9876543210 ∷ [])
    ((0x8D, 0xFEDCBA9876543210) ∷ [])
    -- MODEL W8: Rt 31 stores 0
    ∷ changes ((0x80, 1) ∷ (0x8C, 5) ∷ []) 2 (access 0xD518995F 7) ((0x8C, 0) ∷ [])
    ∷ []
