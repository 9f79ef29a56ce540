-- Conversions as data: a session's bytes, and what its conversion gives.
use Rattle.std.specs.Prelude.{ℕ, zero, suc, List, [], ◌∷◌, ◌++◌, replicate}
use Rattle.answer.specs.declared.Refusal.TheVariants.{
  UnknownCommand,
  Truncated,
  SessionTooLong,
  SetTooWide,
  LongFormTooLong,
}
use Rattle.command.specs.Operand.{v}
use Rattle.conversion.specs.Conversion.{Conversion}

-- MODEL S1: so many times the same bytes
abbrev times : ℕ → List ℕ → List ℕ
times zero s = []
times (suc n) s = s ++ times n s

-- MODEL Z5: a session's bytes, and its conversion
pub record Example : Type 0 where
  pub input : List ℕ
  pub conversion : Conversion

-- MODEL Z5, and the clauses named below: the conversions that are computed
unfoldable pub examples : List Example
examples =
    -- MODEL Z4 and S8: the worked session
    record {
      input =
          (0x01 ∷ 0x00 ∷ v 1)
          ++ (0x01 ∷ 0x0C ∷ v 2)
          ++ (0x01 ∷ 0x61 ∷ v 42)
          ++ (0x02 ∷ 0x01 ∷ [])
          ++ (0x03 ∷ 0x22 ∷ 0xE8 ∷ 0x3B ∷ 0xD5 ∷ v 0)
          ++ (0x03 ∷ 0x42 ∷ 0xE8 ∷ 0x3B ∷ 0xD5 ∷ v 0)
          ++ (0x00 ∷ []);
      conversion =
          Conversion.Session
          (0x10
          ∷ (0x11 ∷ 0x00 ∷ 1 ∷ [])
          ++ (0x11 ∷ 0x0C ∷ 2 ∷ [])
          ++ (0x11 ∷ 0x61 ∷ 42 ∷ [])
          ++ (0x02 ∷ 0x01 ∷ [])
          ++ (0x03 ∷ 0x22 ∷ 0xE8 ∷ 0x3B ∷ 0xD5 ∷ v 0)
          ++ (0x03 ∷ 0x42 ∷ 0xE8 ∷ 0x3B ∷ 0xD5 ∷ v 0)
          ++ (0x00 ∷ []));
    }
    -- MODEL Z4: the three widths, back to the long form; what follows the end is dropped
    ∷ record {
      input =
          0x10
          ∷ (0x11 ∷ 0x60 ∷ 0xFF ∷ [])
          ++ (0x12 ∷ 0x60 ∷ 0x00 ∷ 0x01 ∷ 0x00 ∷ 0x00 ∷ [])
          ++ (0x01 ∷ 0x60 ∷ v 0x100000000)
          ++ (0x00 ∷ 0x13 ∷ 0x10 ∷ []);
      conversion =
          Conversion.Session
          ((0x01 ∷ 0x60 ∷ v 0xFF) ++ (0x01 ∷ 0x60 ∷ v 0x100) ++ (0x01 ∷ 0x60 ∷ v 0x100000000) ++ (0x00 ∷ []));
    }
    -- MODEL Z4: commands that a session refuses with 3, 4 and 5 are there too
    ∷ record {
      input = (0x01 ∷ 0x0D ∷ v 7) ++ (0x01 ∷ 0x0C ∷ v 32) ++ (0x02 ∷ 0x04 ∷ 0x06 ∷ 0x02 ∷ 0x00 ∷ []);
      conversion =
          Conversion.Session
          (0x10 ∷ 0x11 ∷ 0x0D ∷ 7 ∷ 0x11 ∷ 0x0C ∷ 32 ∷ 0x02 ∷ 0x04 ∷ 0x06 ∷ 0x02 ∷ 0x00 ∷ []);
    }
    -- MODEL Z4: every other command
    ∷ record {
      input =
          0x10
          ∷ (0x04 ∷ 0x00 ∷ 0x0C ∷ [])
          ++ (0x05 ∷ 0x00 ∷ 0x0C ∷ v 0x1F)
          ++ (0x06 ∷ 0x01 ∷ 0x07 ∷ 0x08 ∷ 0xFF ∷ 0x00 ∷ []);
      conversion =
          Conversion.Session
          ((0x04 ∷ 0x00 ∷ 0x0C ∷ []) ++ (0x05 ∷ 0x00 ∷ 0x0C ∷ v 0x1F) ++ (0x06 ∷ 0x01 ∷ 0x07 ∷ 0x08 ∷ 0xFF ∷ 0x00 ∷ []));
    }
    -- MODEL Z5: 6, even where the session ends at once; and not for the byte 10
    ∷ record { input = replicate 4097 0x00; conversion = Conversion.Refused SessionTooLong }
    ∷ record { input = replicate 4096 0x00; conversion = Conversion.Session (0x10 ∷ 0x00 ∷ []) }
    ∷ record { input = 0x10 ∷ replicate 4097 0x00; conversion = Conversion.Refused SessionTooLong }
    ∷ record { input = 0x10 ∷ replicate 4096 0x00; conversion = Conversion.Session (0x00 ∷ []) }
    -- MODEL Z5: 6 before 1
    ∷ record { input = replicate 4097 0x13; conversion = Conversion.Refused SessionTooLong }
    -- MODEL Z4 and Z3: FFFFFFFF has four bytes, and what stands behind the end is not looked at
    ∷ record {
      input = (0x01 ∷ 0x60 ∷ v 0xFFFFFFFF) ++ (0x00 ∷ []);
      conversion = Conversion.Session (0x10 ∷ 0x12 ∷ 0x60 ∷ 0xFF ∷ 0xFF ∷ 0xFF ∷ 0xFF ∷ 0x00 ∷ []);
    }
    ∷ record { input = 0x10 ∷ 0x00 ∷ 0x12 ∷ 0x60 ∷ v 1; conversion = Conversion.Session (0x00 ∷ []) }
    -- MODEL Z5: the first of 1, 2 and 19
    ∷ record { input = []; conversion = Conversion.Refused Truncated }
    ∷ record { input = 0x10 ∷ []; conversion = Conversion.Refused Truncated }
    ∷ record { input = 0x02 ∷ 0x00 ∷ 0x11 ∷ []; conversion = Conversion.Refused UnknownCommand }
    ∷ record {
      input = 0x10 ∷ (0x12 ∷ 0x0D ∷ 0xFF ∷ 0x00 ∷ 0x00 ∷ 0x00 ∷ []) ++ (0x10 ∷ []);
      conversion = Conversion.Refused SetTooWide;
    }
    ∷ record {
      input = 0x10 ∷ 0x10 ∷ 0x12 ∷ 0x0D ∷ 0xFF ∷ 0x00 ∷ 0x00 ∷ 0x00 ∷ [];
      conversion = Conversion.Refused UnknownCommand;
    }
    -- MODEL Z5: 20 comes last. In the long form 409 sets and the end have 4,091 bytes, with three ticks 4,097, with two and a
    -- step back 4,096
    ∷ record {
      input = 0x10 ∷ times 409 (0x11 ∷ 0x00 ∷ 0x01 ∷ []) ++ times 3 (0x06 ∷ 0x00 ∷ []) ++ (0x00 ∷ []);
      conversion = Conversion.Refused LongFormTooLong;
    }
    ∷ record {
      input = 0x10 ∷ times 409 (0x11 ∷ 0x00 ∷ 0x01 ∷ []) ++ times 3 (0x06 ∷ 0x00 ∷ []) ++ (0x13 ∷ []);
      conversion = Conversion.Refused UnknownCommand;
    }
    ∷ record {
      input = 0x10 ∷ times 409 (0x11 ∷ 0x00 ∷ 0x01 ∷ []) ++ times 3 (0x06 ∷ 0x00 ∷ []);
      conversion = Conversion.Refused Truncated;
    }
    ∷ record {
      input = 0x10 ∷ times 410 (0x11 ∷ 0x00 ∷ 0x01 ∷ []) ++ (0x01 ∷ 0x00 ∷ v 1) ++ (0x00 ∷ []);
      conversion = Conversion.Refused SetTooWide;
    }
    ∷ record {
      input = 0x10 ∷ times 409 (0x11 ∷ 0x00 ∷ 0x01 ∷ []) ++ (0x06 ∷ 0x00 ∷ 0x06 ∷ 0x00 ∷ 0x07 ∷ 0x00 ∷ []);
      conversion =
          Conversion.Session (times 409 (0x01 ∷ 0x00 ∷ v 1) ++ (0x06 ∷ 0x00 ∷ 0x06 ∷ 0x00 ∷ 0x07 ∷ 0x00 ∷ []));
    }
    ∷ []
