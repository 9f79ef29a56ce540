-- No command brings refusal 10 about; steps back bring the record back, of the definition and of calls; the examples.
pub mod Refusal10
pub mod Bounded
pub mod Reached
pub mod ThereAndBack
pub mod Calls
pub mod AccessCalls
pub mod Witness
pub mod Examples
