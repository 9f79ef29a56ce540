-- What is proved of the rules.
pub mod Worked
pub mod Unchanged
pub mod Decided
pub mod Mask
pub mod Shown
pub mod Flags
pub mod Touches
pub mod Places
pub mod Sweep
pub mod Width
pub mod Applied
pub mod HiddenCounters
pub mod Alike
pub mod Isolation
pub mod OverflowClaims
pub mod SamplingClaim
pub mod Witness
