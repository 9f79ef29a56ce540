-- The definitions of the crate `bits`.
pub mod Bits
