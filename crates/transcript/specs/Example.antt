-- The worked session, and sessions at the edges of what is run, as data: bytes, and the whole output.
use Rattle.std.specs.Prelude.{ℕ, List, [], ◌∷◌, ◌++◌, replicate}
use Prim.Native.String.{String}
use Rattle.command.specs.Operand.{v}

-- MODEL S8: a session's bytes, and its whole output
pub record Example : Type 0 where
  pub input : List ℕ
  pub output : String

-- MODEL S8, and the clauses named below: the sessions that are computed
unfoldable pub examples : List Example
examples =
    -- MODEL S8: the worked session
    record {
      input =
          (0x01 ∷ 0x00 ∷ v 1)
          ++ (0x01 ∷ 0x0C ∷ v 2)
          ++ (0x01 ∷ 0x61 ∷ v 42)
          ++ (0x02 ∷ 0x01 ∷ [])
          ++ (0x03 ∷ 0x22 ∷ 0xE8 ∷ 0x3B ∷ 0xD5 ∷ v 0)
          ++ (0x03 ∷ 0x42 ∷ 0xE8 ∷ 0x3B ∷ 0xD5 ∷ v 0)
          ++ (0x00 ∷ []);
      output = "1 ok\n2 ok\n3 ok\n4 ok\n5 value 000000000000002A 2\n6 undef\n7 end\n";
    }
    -- MODEL S6: the empty session
    ∷ record { input = []; output = "1 refused 2\n" }
    -- MODEL S5 and S3: one byte over the limit, and at the limit, where the session is run and ends at once
    ∷ record { input = replicate 4097 0x00; output = "0 refused 6\n" }
    ∷ record { input = replicate 4096 0x00; output = "1 end\n" }
    -- MODEL V2: refusals 1 and 2 stop the reading, 3, 4 and 5 do not
    ∷ record { input = 0x0A ∷ 0x00 ∷ []; output = "1 refused 1\n" }
    ∷ record {
      input = 0x02 ∷ 0x04 ∷ 0x06 ∷ 0x02 ∷ (0x01 ∷ 0x0D ∷ v 0) ++ (0x01 ∷ []);
      output = "1 refused 5\n2 refused 4\n3 refused 3\n4 refused 2\n";
    }
    -- MODEL S1, J5, J9 and R2: a member that does not count, one that is selected, and one without its draw
    ∷ record {
      input =
          (0x08 ∷ 0x05 ∷ [])
          ++ (0x01 ∷ 0x80 ∷ v 1)
          ++ (0x01 ∷ 0x8B ∷ v 1)
          ++ (0x01 ∷ 0x83 ∷ v 1)
          ++ (0x08 ∷ 0x05 ∷ [])
          ++ (0x08 ∷ []);
      output = "1 ok\n2 ok\n3 ok\n4 ok\n5 sampled\n6 refused 2\n";
    }
    -- MODEL S1, H1, H6, R18 and V2: nothing to take back, a level command taken back, and reading goes on
    ∷ record {
      input = 0x07 ∷ 0x02 ∷ 0x01 ∷ 0x07 ∷ 0x07 ∷ 0x00 ∷ [];
      output = "1 refused 18\n2 ok\n3 ok\n4 refused 18\n5 end\n";
    }
    -- MODEL R1: the byte behind the last command's
    ∷ record { input = 0x09 ∷ 0x00 ∷ []; output = "1 refused 1\n" }
    -- MODEL Z1 and S5: nothing behind the byte 10, at the limit and one byte over it
    ∷ record { input = 0x10 ∷ []; output = "1 refused 2\n" }
    ∷ record { input = 0x10 ∷ replicate 4096 0x00; output = "1 end\n" }
    ∷ record { input = 0x10 ∷ replicate 4097 0x00; output = "0 refused 6\n" }
    -- MODEL Z2: sets of the three widths, each as narrow as it can be
    ∷ record {
      input =
          0x10
          ∷ (0x11 ∷ 0x0C ∷ 0x1F ∷ [])
          ++ (0x12 ∷ 0x60 ∷ 0x00 ∷ 0x01 ∷ 0x00 ∷ 0x00 ∷ [])
          ++ (0x01 ∷ 0x61 ∷ v 0x100000000)
          ++ (0x00 ∷ []);
      output = "1 ok\n2 ok\n3 ok\n4 end\n";
    }
    -- MODEL Z3, R19, V1 and V2: a byte in four, four in eight, a byte in eight; before 3 and 4, and reading goes on
    ∷ record {
      input =
          0x10
          ∷ (0x12 ∷ 0x0C ∷ 0xFF ∷ 0x00 ∷ 0x00 ∷ 0x00 ∷ [])
          ++ (0x01 ∷ 0x0D ∷ v 0xFFFFFFFF)
          ++ (0x01 ∷ 0x0C ∷ v 1)
          ++ (0x11 ∷ 0x0D ∷ 0x00 ∷ [])
          ++ (0x11 ∷ 0x0C ∷ 0x20 ∷ [])
          ++ (0x00 ∷ []);
      output = "1 refused 19\n2 refused 19\n3 refused 19\n4 refused 3\n5 refused 4\n6 end\n";
    }
    -- MODEL R2 and V1: cut off before it is too wide
    ∷ record { input = 0x10 ∷ 0x12 ∷ 0x0C ∷ 0x01 ∷ 0x00 ∷ 0x00 ∷ []; output = "1 refused 2\n" }
    -- MODEL Z2 and R1: the short form's sets in the long form, and the byte 10 behind the first
    ∷ record { input = 0x11 ∷ 0x00 ∷ 0x01 ∷ 0x00 ∷ []; output = "1 refused 1\n" }
    ∷ record { input = 0x12 ∷ 0x00 ∷ 0x01 ∷ 0x00 ∷ 0x00 ∷ 0x00 ∷ 0x00 ∷ []; output = "1 refused 1\n" }
    ∷ record { input = 0x10 ∷ 0x10 ∷ 0x00 ∷ []; output = "1 refused 1\n" }
    ∷ record { input = 0x02 ∷ 0x00 ∷ 0x10 ∷ 0x00 ∷ []; output = "1 ok\n2 refused 1\n" }
    ∷ record { input = 0x10 ∷ 0x13 ∷ 0x00 ∷ []; output = "1 refused 1\n" }
    ∷ []
