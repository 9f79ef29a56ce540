-- Examples of the overflow flags, as data.
use Rattle.std.specs.Prelude.{true, false, List, [], ◌∷◌}
use Rattle.answer.specs.declared.Answer.{Answer}
use Rattle.rules.specs.Example.{Example, counters_on, shows, answers, changes, swinc, msr3}
use Rattle.rules.specs.Example.Action.{read, write, ticks}

-- MODEL P12: for G11 to G13 and K3, and for E2 to E4, E6 and E10 to E12 at C80 and CC0. N is 6 and HPMN 4 (MODEL P0)
unfoldable pub overflow_examples : List Example
overflow_examples =
    -- MODEL G11: with p5 and LP 0 at 32 bits, where the counter goes on, and at each carry out of the lower half; without a
    -- carry there is no flag
    changes (counters_on ((0x60, 0xFFFFFFFF) ∷ [])) 1 (swinc 1) ((0x60, 0x100000000) ∷ (0x37, 1) ∷ [])
    ∷ changes (counters_on ((0x60, 0x5FFFFFFFF) ∷ [])) 1 (swinc 1) ((0x60, 0x600000000) ∷ (0x37, 1) ∷ [])
    ∷ changes (counters_on ((0x60, 0xFFFFFFFFFFFFFFFF) ∷ [])) 1 (swinc 1) ((0x60, 0) ∷ (0x37, 1) ∷ [])
    ∷ changes (counters_on ((0x60, 0xFFFFFFFE) ∷ [])) 1 (swinc 1) ((0x60, 0xFFFFFFFF) ∷ [])
    ∷ changes (counters_on ((0x60, 0xFFFFFFFF00000000) ∷ [])) 1 (swinc 1) ((0x60, 0xFFFFFFFF00000001) ∷ [])
    -- MODEL G11: with p5 and LP 1 not at 32 bits, but at 64
    ∷ changes (counters_on ((0x35, 1) ∷ (0x60, 0xFFFFFFFF) ∷ [])) 1 (swinc 1) ((0x60, 0x100000000) ∷ [])
    ∷ changes (counters_on ((0x35, 1) ∷ (0x60, 0xFFFFFFFFFFFFFFFF) ∷ [])) 1 (swinc 1) ((0x60, 0) ∷ (0x37, 1) ∷ [])
    -- MODEL G11: without p5 at 32 bits, whatever LP and HLP are
    ∷ changes (counters_on ((0x01, 0) ∷ (0x02, 0) ∷ (0x60, 0xFFFFFFFF) ∷ [])) 1 (swinc 1) ((0x60, 0) ∷ (0x37, 1) ∷ [])
    ∷ changes (counters_on ((0x01, 0) ∷ (0x02, 0) ∷ (0x35, 1) ∷ (0x36, 1) ∷ (0x60, 0xFFFFFFFF) ∷ (0x64, 0xFFFFFFFF) ∷ []))
    2
    (swinc 0x11)
    ((0x60, 0) ∷ (0x64, 0) ∷ (0x37, 0x11) ∷ [])
    -- MODEL G12: HLP from HPMN on, at HPMN too, and LP below; with EL2 enabled, and implemented but not enabled
    ∷ changes (counters_on ((0x36, 1) ∷ (0x63, 0xFFFFFFFF) ∷ (0x64, 0xFFFFFFFF) ∷ []))
    2
    (swinc 0x18)
    ((0x63, 0x100000000) ∷ (0x64, 0x100000000) ∷ (0x37, 8) ∷ [])
    ∷ changes (counters_on ((0x35, 1) ∷ (0x63, 0xFFFFFFFF) ∷ (0x64, 0xFFFFFFFF) ∷ []))
    2
    (swinc 0x18)
    ((0x63, 0x100000000) ∷ (0x64, 0x100000000) ∷ (0x37, 0x10) ∷ [])
    ∷ changes (counters_on ((0x10, 0) ∷ (0x36, 1) ∷ (0x63, 0xFFFFFFFF) ∷ (0x64, 0xFFFFFFFF) ∷ []))
    1
    (swinc 0x18)
    ((0x63, 0x100000000) ∷ (0x64, 0x100000000) ∷ (0x37, 8) ∷ [])
    ∷ changes (counters_on ((0x10, 0) ∷ (0x36, 1) ∷ (0x64, 0xFFFFFFFFFFFFFFFF) ∷ []))
    1
    (swinc 0x10)
    ((0x64, 0) ∷ (0x37, 0x10) ∷ [])
    -- MODEL G12: without EL2 LP decides for all
    ∷ changes (counters_on ((0x09, 0) ∷ (0x10, 0) ∷ (0x36, 1) ∷ (0x64, 0xFFFFFFFF) ∷ []))
    1
    (swinc 0x10)
    ((0x64, 0x100000000) ∷ (0x37, 0x10) ∷ [])
    ∷ changes (counters_on ((0x09, 0) ∷ (0x10, 0) ∷ (0x35, 1) ∷ (0x64, 0xFFFFFFFF) ∷ [])) 1 (swinc 0x10) ((0x64, 0x100000000)
    ∷ [])
    -- MODEL G13: each of several counters by itself, and flags that are set stay
    ∷ changes (counters_on ((0x37, 0x100000042) ∷ (0x60, 0xFFFFFFFF) ∷ (0x61, 7) ∷ (0x62, 0xFFFFFFFF) ∷ []))
    1
    (swinc 7)
    ((0x60, 0x100000000) ∷ (0x61, 8) ∷ (0x62, 0x100000000) ∷ (0x37, 0x100000047) ∷ [])
    ∷ changes (counters_on ((0x37, 1) ∷ (0x60, 0xFFFFFFFF) ∷ [])) 1 (swinc 1) ((0x60, 0x100000000) ∷ [])
    -- MODEL G13: no flag by a counter that does not go up: another event number, at HPMN from level 1, held back by PMUACR, from
    -- N on
    ∷ answers (counters_on ((0x40, 1) ∷ (0x60, 0xFFFFFFFF) ∷ [])) 1 (swinc 1) Answer.Ok
    ∷ answers (counters_on ((0x64, 0xFFFFFFFF) ∷ [])) 1 (swinc 0x10) Answer.Ok
    ∷ answers (counters_on ((0x23, 1) ∷ (0x63, 0xFFFFFFFF) ∷ [])) 0 (swinc 8) Answer.Ok
    ∷ answers (counters_on ((0x66, 0xFFFFFFFF) ∷ [])) 2 (swinc 0x40) Answer.Ok
    -- MODEL G13: a write of a counter neither sets nor clears its flag
    ∷ changes ((0x63, 0xFFFFFFFF) ∷ []) 1 (msr3 0) ((0x63, 0) ∷ [])
    ∷ changes ((0x37, 8) ∷ (0x63, 0xFFFFFFFF) ∷ []) 1 (msr3 0) ((0x63, 0) ∷ [])
    -- MODEL K3: the tick, with LP 0 and with LP 1; not at 32 bits, and not where the counter stays
    ∷ changes ((0x37, 1) ∷ (0x03, 1) ∷ (0x34, 0x100000000) ∷ (0x7F, 0xFFFFFFFFFFFFFFFF) ∷ [])
    0
    (ticks false)
    ((0x7F, 0) ∷ (0x37, 0x100000001) ∷ [])
    ∷ changes ((0x35, 1) ∷ (0x36, 1) ∷ (0x03, 1) ∷ (0x34, 0x100000000) ∷ (0x7F, 0xFFFFFFFFFFFFFFFF) ∷ [])
    0
    (ticks false)
    ((0x7F, 0) ∷ (0x37, 0x100000000) ∷ [])
    ∷ changes ((0x03, 1) ∷ (0x34, 0x100000000) ∷ (0x7F, 0xFFFFFFFF) ∷ [])
    0
    (ticks false)
    ((0x7F, 0x100000000) ∷ [])
    ∷ answers ((0x03, 1) ∷ (0x34, 0x100000000) ∷ (0x7F, 0xFFFFFFFFFFFFFFFF) ∷ []) 0 (ticks true) Answer.Ok
    -- MODEL E6, E10: both offsets show the flags in reach, with ICNTR bit 32 too, and never bit 31
    ∷ shows ((0x37, 0x17FFFFFFF) ∷ [])
    0
    (read 0xC80 ∷ read 0xCC0 ∷ [])
    (Answer.Value 0x3F ∷ Answer.Value 0x3F ∷ [])
    []
    ∷ shows ((0x03, 1) ∷ (0x37, 0x17FFFFFFF) ∷ [])
    0
    (read 0xC80 ∷ read 0xCC0 ∷ [])
    (Answer.Value 0x10000003F ∷ Answer.Value 0x10000003F ∷ [])
    []
    -- MODEL E11: at C80 the written 1 bits are cleared, and those out of reach stay
    ∷ shows ((0x37, 0x17FFFFFFF) ∷ [])
    0
    (write 0xC80 5 ∷ write 0xC80 0 ∷ read 0xCC0 ∷ [])
    (Answer.Ok ∷ Answer.Ok ∷ Answer.Value 0x3A ∷ [])
    ((0x37, 0x17FFFFFFA) ∷ [])
    ∷ changes ((0x37, 0x17FFFFFFF) ∷ []) 0 (write 0xC80 0xFFFFFFFFFFFFFFFF) ((0x37, 0x17FFFFFC0) ∷ [])
    ∷ changes ((0x03, 1) ∷ (0x37, 0x17FFFFFFF) ∷ []) 0 (write 0xC80 0xFFFFFFFFFFFFFFFF) ((0x37, 0x7FFFFFC0) ∷ [])
    -- MODEL E12: at CC0 they are set, and a written 0 clears none; bit 31 is ignored
    ∷ shows ((0x37, 0x40) ∷ [])
    0
    (write 0xCC0 0x80000005 ∷ write 0xCC0 0 ∷ read 0xC80 ∷ [])
    (Answer.Ok ∷ Answer.Ok ∷ Answer.Value 5 ∷ [])
    ((0x37, 0x45) ∷ [])
    ∷ changes [] 0 (write 0xCC0 0xFFFFFFFFFFFFFFFF) ((0x37, 0x3F) ∷ [])
    ∷ changes ((0x03, 1) ∷ []) 0 (write 0xCC0 0xFFFFFFFFFFFFFFFF) ((0x37, 0x10000003F) ∷ [])
    -- MODEL E2, E3, E4: no interface; the OS lock; the software lock, which does not keep a read away
    ∷ shows ((0x08, 0) ∷ (0x37, 1) ∷ [])
    0
    (read 0xC80 ∷ write 0xC80 1 ∷ write 0xCC0 2 ∷ [])
    (Answer.Value 0 ∷ Answer.Ok ∷ Answer.Ok ∷ [])
    []
    ∷ shows ((0x3A, 1) ∷ (0x37, 1) ∷ [])
    0
    (read 0xC80 ∷ read 0xCC0 ∷ write 0xC80 1 ∷ write 0xCC0 2 ∷ [])
    (Answer.Error ∷ Answer.Error ∷ Answer.Error ∷ Answer.Error ∷ [])
    []
    ∷ shows ((0x3C, 1) ∷ (0x37, 1) ∷ [])
    0
    (write 0xC80 1 ∷ write 0xCC0 2 ∷ read 0xC80 ∷ [])
    (Answer.Ok ∷ Answer.Ok ∷ Answer.Value 1 ∷ [])
    []
    ∷ []
