-- The definitions of the crate `counters`.
pub mod Decremented
