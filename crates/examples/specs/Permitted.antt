-- Examples of permitted accesses, as data.
use Rattle.std.specs.Prelude.{List, [], ◌∷◌}
use Rattle.answer.specs.declared.Answer.{Answer}
use Rattle.rules.specs.Example.{Example, on, counters_on, shows, answers, changes, gives}
use Rattle.rules.specs.Example.{swinc, mrs3, msr3, mrs_icntr, msr_icntr}
use Rattle.rules.specs.Example.Action.{access}

-- MODEL P12: for W8 and G1 to G10
unfoldable pub permitted_examples : List Example
permitted_examples =
    -- MODEL W8: with Rt 31 a write of a counter stores 0, and PMSWINC adds nothing
    changes ((0x63, 9) ∷ []) 1 (access 0xD51BE87F 5) ((0x63, 0) ∷ [])
    ∷ answers (counters_on []) 1 (access 0xD51B9C9F 8) Answer.Ok
    -- MODEL G1, G2: without p5 a counter takes 32 bits, and the instruction counter 64
    ∷ changes ((0x01, 0) ∷ (0x02, 0) ∷ []) 1 (msr3 0x500000007) ((0x63, 7) ∷ [])
    ∷ changes ((0x01, 0) ∷ (0x02, 0) ∷ (0x03, 1) ∷ []) 1 (msr_icntr 0x500000007) ((0x7F, 0x500000007) ∷ [])
    -- MODEL G3, G4, G5: PMUACR binds neither without p9 nor with UEN 0; a counter whose P bit is 1 is not denied
    ∷ answers ((0x02, 0) ∷ (0x23, 1) ∷ (0x63, 9) ∷ []) 0 mrs3 (gives 9)
    ∷ answers ((0x63, 9) ∷ []) 0 mrs3 (gives 9)
    ∷ answers ((0x23, 1) ∷ (0x32, 8) ∷ (0x63, 9) ∷ []) 0 mrs3 (gives 9)
    ∷ changes ((0x02, 0) ∷ (0x23, 1) ∷ (0x22, 1) ∷ []) 0 (msr3 5) ((0x63, 5) ∷ [])
    ∷ changes ((0x22, 1) ∷ []) 0 (msr3 5) ((0x63, 5) ∷ [])
    ∷ changes ((0x23, 1) ∷ (0x32, 8) ∷ []) 0 (msr3 5) ((0x63, 5) ∷ [])
    -- MODEL G6: F0 0, without p9 too; IR 1; neither binds level 1
    ∷ shows ((0x03, 1) ∷ (0x7F, 5) ∷ []) 0 (mrs_icntr ∷ msr_icntr 7 ∷ []) (gives 0 ∷ Answer.Ok ∷ []) []
    ∷ answers ((0x02, 0) ∷ (0x03, 1) ∷ (0x7F, 5) ∷ []) 0 mrs_icntr (gives 0)
    ∷ shows ((0x7F, 5) ∷ on (0x03 ∷ 0x33 ∷ 0x31 ∷ [])) 0 (mrs_icntr ∷ msr_icntr 7 ∷ []) (gives 5 ∷ Answer.Ok ∷ []) []
    ∷ changes ((0x03, 1) ∷ (0x31, 1) ∷ []) 1 (msr_icntr 7) ((0x7F, 7) ∷ [])
    -- MODEL G8: an event number other than 0
    ∷ answers (counters_on ((0x41, 1) ∷ [])) 2 (swinc 2) Answer.Ok
    ∷ answers (counters_on ((0x43, 0x100) ∷ [])) 2 (swinc 8) Answer.Ok
    -- MODEL G9: SW 0 with the P bit 0; not with the P bit 1, not without p9, not with UEN 0; m from N on; bits 63:31; HPMN at
    -- level 0
    ∷ answers (counters_on ((0x23, 1) ∷ [])) 0 (swinc 8) Answer.Ok
    ∷ changes (counters_on ((0x23, 1) ∷ (0x32, 8) ∷ [])) 0 (swinc 8) ((0x63, 1) ∷ [])
    ∷ changes (counters_on ((0x02, 0) ∷ (0x23, 1) ∷ [])) 0 (swinc 8) ((0x63, 1) ∷ [])
    ∷ changes (counters_on []) 0 (swinc 8) ((0x63, 1) ∷ [])
    ∷ answers (counters_on []) 2 (swinc 64) Answer.Ok
    ∷ answers (counters_on []) 2 (swinc 0xFFFFFFFF80000000) Answer.Ok
    ∷ changes (counters_on []) 0 (swinc 0x18) ((0x63, 1) ∷ [])
    -- MODEL G10: at 64 bits
    ∷ changes (counters_on ((0x60, 0xFFFFFFFFFFFFFFFF) ∷ [])) 1 (swinc 1) ((0x60, 0) ∷ (0x37, 1) ∷ [])
    ∷ []
