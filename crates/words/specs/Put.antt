-- The words after a call: those that calls may change take what the record afterwards has, and all others stay.
use Rattle.std.specs.Prelude.{ℕ, List, ◌++◌, set, take, drop}
use Rattle.machine.specs.declared.Machine.{Machine}
use Rattle.machine.specs.declared.Values.{Values}

-- MODEL F15 and X14: the words with these event counters, fields 60 to 7E
abbrev pub put_counters : List ℕ → List ℕ → List ℕ
put_counters c s = take 0x60 s ++ (c ++ drop 31 (drop 0x60 s))

-- MODEL F16, F22, F24 and X14: the words with these overflow flags (37), instruction counter (7F), PMSICR_EL1 (8C) and word at
-- 0x838 (8D)
abbrev pub put_values : Values → List ℕ → List ℕ
put_values v s = set (set (set (set s 0x37 v.ovs) 0x7F v.instructions) 0x8C v.pmsicr) 0x8D v.nvmem

-- MODEL X14: the words after a call that leaves this record: what accesses from inside and outside, ticks and members may change
-- is the event counters, the counter enables (34) and these values
unfoldable pub put : Machine → List ℕ → List ℕ
put m s = put_values m.values (set (put_counters m.counters s) 0x34 m.settings.cnten)
