-- Examples of each clause on accesses, external accesses, ticks and members, and of the state refusals.
pub mod Traps
pub mod Icntr
pub mod Pmsicr
pub mod Permitted
pub mod Enabled
pub mod External
pub mod Overflow
pub mod Sampling
pub mod State
pub mod Further
