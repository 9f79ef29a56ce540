-- The rules on accesses in the order of docs/MODEL.md: the instruction word, the orders of traps, the ranges of counters,
-- permitted accesses, overflow, the step, external accesses, ticks and members, examples, the claims of isolation, those
-- on the overflow flags, and that on PMSICR from EL0.
pub mod Word
pub mod Traps
pub mod Ranges
pub mod Permitted
pub mod Overflow
pub mod Apply
pub mod Step
pub mod External
pub mod Example
pub mod Worked
pub mod Isolation
pub mod OverflowClaims
pub mod SamplingClaim
