-- The two ranges of event counters, the bits that control each, and which counters are enabled.
use Rattle.std.specs.Prelude.{ℕ, Bool, cond, ◌&&◌, leb}
use Rattle.bits.specs.Bits.{bit}
use Rattle.machine.specs.declared.Settings.{Settings}

-- MODEL G12: event counter m is in the second range: from HPMN on, where EL2 is implemented. It says which bits control a
-- counter, whoever asks; who may reach a counter is `inaccessible` (Traps.antt), which asks for the level and whether EL2 is
-- enabled
abbrev pub in_second_range : Settings → ℕ → Bool
in_second_range s m = s.features.el2 && leb s.mdcr2.hpmn m

-- MODEL G12: the long bit of event counter m
abbrev pub long_bit : Settings → ℕ → Bool
long_bit s m = cond (in_second_range s m) s.mdcr2.hlp s.pmcr.lp

-- MODEL G14: the enable of event counter m's range
abbrev pub range_enable : Settings → ℕ → Bool
range_enable s m = cond (in_second_range s m) s.mdcr2.hpme s.pmcr.e

-- MODEL G14: event counter m is enabled, by its own bit and by its range
abbrev pub counter_enabled : Settings → ℕ → Bool
counter_enabled s m = bit m s.cnten && range_enable s m
