-- Examples of enabled and stopped counters, as data. Counters 3 and 4 are on either side of HPMN (MODEL P0).
use Rattle.std.specs.Prelude.{false, List, [], ◌∷◌}
use Rattle.answer.specs.declared.Answer.{Answer}
use Rattle.rules.specs.Example.{Example, on, counters_on, shows, answers, changes, gives, swinc, mrs3, msr3}
use Rattle.rules.specs.Example.Action.{write, ticks}

-- MODEL P12: for G14, and for what it leaves alone
unfoldable pub enabled_examples : List Example
enabled_examples =
    -- MODEL G14: each enable bit for its own counter, and bits 31 and 32 for none
    changes (counters_on ((0x34, 0x7FFFFFF7) ∷ [])) 2 (swinc 0x18) ((0x64, 1) ∷ [])
    ∷ changes (counters_on ((0x34, 0x08) ∷ [])) 2 (swinc 0x18) ((0x63, 1) ∷ [])
    ∷ answers (counters_on ((0x34, 0x180000000) ∷ [])) 2 (swinc 0x18) Answer.Ok
    ∷ changes (counters_on ((0x0C, 31) ∷ (0x27, 31) ∷ (0x34, 0x40000000) ∷ [])) 1 (swinc 0x7FFFFFFF) ((0x7E, 1) ∷ [])
    -- MODEL G14: at level 3 too, without p5 too, and at level 0 whatever SW, UEN and the P bit are
    ∷ answers (counters_on ((0x34, 0x7FFFFFF7) ∷ (0x0A, 1) ∷ [])) 3 (swinc 8) Answer.Ok
    ∷ answers (counters_on ((0x01, 0) ∷ (0x02, 0) ∷ (0x34, 0x7FFFFFF7) ∷ (0x3E, 0) ∷ [])) 2 (swinc 0x18) Answer.Ok
    ∷ answers (counters_on ((0x34, 0x7FFFFFF7) ∷ (0x20, 0) ∷ (0x32, 8) ∷ on (0x21 ∷ 0x23 ∷ []))) 0 (swinc 8) Answer.Ok
    -- MODEL G14: neither the enable bits alone, nor E and HPME alone
    ∷ answers ((0x34, 0x7FFFFFFF) ∷ []) 2 (swinc 0x18) Answer.Ok
    ∷ answers (on (0x3D ∷ 0x3E ∷ [])) 2 (swinc 0x18) Answer.Ok
    -- MODEL G14: E below HPMN, at every level; HPME does not help there
    ∷ answers (counters_on ((0x3D, 0) ∷ [])) 0 (swinc 0x18) Answer.Ok
    ∷ answers (counters_on ((0x3D, 0) ∷ [])) 1 (swinc 0x18) Answer.Ok
    ∷ changes (counters_on ((0x3D, 0) ∷ [])) 2 (swinc 0x18) ((0x64, 1) ∷ [])
    ∷ changes (counters_on ((0x34, 0x7FFFFFEF) ∷ (0x3D, 0) ∷ (0x0A, 1) ∷ [])) 3 (swinc 0x38) ((0x65, 1) ∷ [])
    -- MODEL G14: HPME from HPMN on, at levels 2 and 3; E does not help there. Below HPMN it is not looked at
    ∷ changes (counters_on ((0x3E, 0) ∷ [])) 2 (swinc 0x18) ((0x63, 1) ∷ [])
    ∷ changes (counters_on ((0x3E, 0) ∷ (0x0A, 1) ∷ [])) 3 (swinc 0x18) ((0x63, 1) ∷ [])
    ∷ answers (counters_on ((0x3E, 0) ∷ [])) 2 (swinc 0x20) Answer.Ok
    ∷ changes (counters_on ((0x3E, 0) ∷ [])) 0 (swinc 0x18) ((0x63, 1) ∷ [])
    -- MODEL G12, G14: HPME decides also where EL2 is implemented and not enabled, at levels 0, 1 and 3
    ∷ changes (counters_on ((0x10, 0) ∷ (0x3E, 0) ∷ [])) 0 (swinc 0x18) ((0x63, 1) ∷ [])
    ∷ changes (counters_on ((0x10, 0) ∷ (0x3E, 0) ∷ [])) 1 (swinc 0x18) ((0x63, 1) ∷ [])
    ∷ changes (counters_on ((0x10, 0) ∷ (0x3D, 0) ∷ [])) 1 (swinc 0x18) ((0x64, 1) ∷ [])
    ∷ changes (counters_on ((0x10, 0) ∷ (0x3E, 0) ∷ (0x0A, 1) ∷ [])) 3 (swinc 0x18) ((0x63, 1) ∷ [])
    -- MODEL G12, G14: without EL2 E decides for all, whatever HPMN and HPME are
    ∷ changes (counters_on ((0x09, 0) ∷ (0x10, 0) ∷ (0x3E, 0) ∷ [])) 1 (swinc 0x18) ((0x63, 1) ∷ (0x64, 1) ∷ [])
    ∷ answers (counters_on ((0x09, 0) ∷ (0x10, 0) ∷ (0x3D, 0) ∷ [])) 1 (swinc 0x18) Answer.Ok
    -- MODEL G12, G14: HPMN at N leaves no second range, and HPMN 0 no first
    ∷ changes (counters_on ((0x27, 6) ∷ (0x3E, 0) ∷ [])) 2 (swinc 0x38) ((0x63, 1) ∷ (0x64, 1) ∷ (0x65, 1) ∷ [])
    ∷ changes (counters_on ((0x06, 1) ∷ (0x27, 0) ∷ (0x3D, 0) ∷ [])) 2 (swinc 9) ((0x60, 1) ∷ (0x63, 1) ∷ [])
    ∷ answers (counters_on ((0x06, 1) ∷ (0x27, 0) ∷ (0x3E, 0) ∷ [])) 2 (swinc 9) Answer.Ok
    -- MODEL G13, G14: a stopped counter sets no flag, by its bit, by E and by HPME, with p5 and without it; and a flag stays
    ∷ answers (counters_on ((0x34, 0x7FFFFFF7) ∷ (0x63, 0xFFFFFFFF) ∷ [])) 2 (swinc 8) Answer.Ok
    ∷ answers (counters_on ((0x3D, 0) ∷ (0x35, 1) ∷ (0x63, 0xFFFFFFFFFFFFFFFF) ∷ [])) 1 (swinc 8) Answer.Ok
    ∷ answers (counters_on ((0x3E, 0) ∷ (0x64, 0xFFFFFFFF) ∷ [])) 2 (swinc 0x10) Answer.Ok
    ∷ answers (counters_on ((0x01, 0) ∷ (0x02, 0) ∷ (0x3D, 0) ∷ (0x63, 0xFFFFFFFF) ∷ [])) 1 (swinc 8) Answer.Ok
    ∷ answers (counters_on ((0x3D, 0) ∷ (0x37, 8) ∷ (0x63, 0xFFFFFFFF) ∷ [])) 1 (swinc 8) Answer.Ok
    -- MODEL G2, G14: a stopped counter is written and read all the same
    ∷ shows ((0x63, 9) ∷ []) 1 (msr3 5 ∷ swinc 8 ∷ mrs3 ∷ []) (Answer.Ok ∷ Answer.Ok ∷ gives 5 ∷ []) ((0x63, 5) ∷ [])
    -- MODEL E8, G14: enabled from outside
    ∷ shows ((0x3D, 1) ∷ [])
    1
    (swinc 8 ∷ write 0xC00 8 ∷ swinc 8 ∷ [])
    (Answer.Ok ∷ Answer.Ok ∷ Answer.Ok ∷ [])
    ((0x34, 8) ∷ (0x63, 1) ∷ [])
    -- MODEL K1: a tick looks at bit 32 of the enables, and neither at E nor at HPME
    ∷ changes ((0x03, 1) ∷ (0x34, 0x100000000) ∷ (0x7F, 5) ∷ []) 0 (ticks false) ((0x7F, 6) ∷ [])
    ∷ answers (counters_on ((0x03, 1) ∷ (0x7F, 5) ∷ [])) 0 (ticks false) Answer.Ok
    ∷ []
