-- The laws of the crate `access`, and noninterference of its calls.
pub mod Whole
pub mod Calls
pub mod PartsCalls
pub mod Decoded
pub mod DecodedCalls
