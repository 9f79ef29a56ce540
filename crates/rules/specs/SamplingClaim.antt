-- PMSICR and the word at 0x838 from EL0, whatever the records: no list of accesses from there tells or changes them. It is proved
-- in proofs/SamplingClaim.antt; nothing here depends on that.
use Rattle.std.specs.Prelude.{true, List, ◌≡◌}
use Rattle.machine.specs.declared.Machine.{Machine}
use Rattle.machine.specs.Machine.{with_pmsicr, with_nvmem}
use Rattle.rules.specs.Step.{Access, Run, run}
use Rattle.rules.specs.Isolation.{from_levels}

-- MODEL M15: the record with both put to 0: two records are equal but for these where this is equal
abbrev pub without_sampling : Machine → Machine
without_sampling r = with_pmsicr 0 (with_nvmem 0 r)

-- MODEL M15: the record after a list holds in both what it held before
pub record SamplingKept (r after : Machine) : Type 0 where
  pub pmsicr : after.values.pmsicr ≡ r.values.pmsicr
  pub nvmem : after.values.nvmem ≡ r.values.nvmem

-- MODEL M15: two runs answer alike, and leave records that agree on the level and on every field but these two, which stay
pub record AlikeButSampling (r₁ r₂ : Machine) (a b : Run) : Type 0 where
  pub answers : a.answers ≡ b.answers
  pub same : without_sampling a.machine ≡ without_sampling b.machine
  pub kept₁ : SamplingKept r₁ a.machine
  pub kept₂ : SamplingKept r₂ b.machine

-- MODEL M15: for any two records, consistent or not, that differ at most in these two, and every list of accesses from EL0
abbrev pub SamplingUnseen : Type 0
SamplingUnseen =
    (r₁ r₂ : Machine) (accesses : List Access)
    → from_levels 0 accesses ≡ true
    → without_sampling r₁ ≡ without_sampling r₂
    → AlikeButSampling r₁ r₂ (run accesses r₁) (run accesses r₂)
