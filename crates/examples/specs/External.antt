-- Examples of external accesses and ticks, as data.
use Rattle.std.specs.Prelude.{true, false, List, [], ◌∷◌}
use Rattle.answer.specs.declared.Answer.{Answer}
use Rattle.rules.specs.Example.{Example, shows, answers, changes}
use Rattle.rules.specs.Example.Action.{read, write, ticks}

-- MODEL P12: for E1 to E8 and K1 to K3
unfoldable pub external_examples : List Example
external_examples =
    -- MODEL E1: other offsets, before the locks
    shows ((0x39, 1) ∷ []) 0 (read 0xC04 ∷ write 0xC84 1 ∷ []) (Answer.Other ∷ Answer.Other ∷ []) []
    -- MODEL E2: neither EXT32 nor EXT64, before the locks
    ∷ shows ((0x08, 0) ∷ (0x39, 1) ∷ (0x34, 1) ∷ []) 0 (read 0xC00 ∷ write 0xC00 2 ∷ []) (Answer.Value 0 ∷ Answer.Ok ∷ []) []
    -- MODEL E3: each reason for an error, before the software lock
    ∷ shows ((0x38, 0) ∷ (0x3C, 1) ∷ []) 0 (read 0xC00 ∷ write 0xC00 1 ∷ []) (Answer.Error ∷ Answer.Error ∷ []) []
    ∷ shows ((0x39, 1) ∷ (0x3C, 1) ∷ []) 0 (read 0xC00 ∷ write 0xC00 1 ∷ []) (Answer.Error ∷ Answer.Error ∷ []) []
    ∷ shows ((0x3A, 1) ∷ (0x3C, 1) ∷ []) 0 (read 0xC00 ∷ write 0xC00 1 ∷ []) (Answer.Error ∷ Answer.Error ∷ []) []
    ∷ shows ((0x3B, 0) ∷ (0x3C, 1) ∷ []) 0 (read 0xC00 ∷ write 0xC00 1 ∷ []) (Answer.Error ∷ Answer.Error ∷ []) []
    -- MODEL E4: the software lock
    ∷ shows ((0x3C, 1) ∷ (0x34, 1) ∷ []) 0 (write 0xC00 2 ∷ read 0xC00 ∷ []) (Answer.Ok ∷ Answer.Value 1 ∷ []) []
    -- MODEL E5: EXT32 alone
    ∷ shows ((0x02, 0) ∷ (0x07, 1) ∷ (0x08, 0) ∷ [])
    0
    (write 0xC00 0x100000043 ∷ read 0xC00 ∷ [])
    (Answer.Ok ∷ Answer.Value 3 ∷ [])
    ((0x34, 3) ∷ [])
    -- MODEL E6, E7: bits out of reach are hidden
    ∷ answers ((0x34, 0x1FFFFFFFF) ∷ []) 0 (read 0xC00) (Answer.Value 0x8000003F)
    -- MODEL E8: a written 0 clears nothing, and bits out of reach stay
    ∷ shows ((0x34, 0x43) ∷ []) 0 (write 0xC00 4 ∷ read 0xC00 ∷ []) (Answer.Ok ∷ Answer.Value 7 ∷ []) ((0x34, 0x47) ∷ [])
    -- MODEL K1: not enabled; prohibited; without ICNTR; and one that counts
    ∷ answers ((0x03, 1) ∷ (0x7F, 5) ∷ []) 0 (ticks false) Answer.Ok
    ∷ shows ((0x03, 1) ∷ (0x34, 0x100000000) ∷ (0x7F, 5) ∷ [])
    0
    (ticks true ∷ ticks false ∷ [])
    (Answer.Ok ∷ Answer.Ok ∷ [])
    ((0x7F, 6) ∷ [])
    ∷ answers ((0x34, 0x100000000) ∷ (0x7F, 5) ∷ []) 0 (ticks false) Answer.Ok
    -- MODEL K2, K3: at 32 bits it goes on, at 64 it wraps, and its flag is set
    ∷ changes ((0x03, 1) ∷ (0x34, 0x100000000) ∷ (0x7F, 0xFFFFFFFF) ∷ []) 0 (ticks false) ((0x7F, 0x100000000) ∷ [])
    ∷ changes ((0x03, 1) ∷ (0x34, 0x100000000) ∷ (0x7F, 0xFFFFFFFFFFFFFFFF) ∷ [])
    0
    (ticks false)
    ((0x7F, 0) ∷ (0x37, 0x100000000) ∷ [])
    ∷ []
