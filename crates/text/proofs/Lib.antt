-- The laws of the crate `text`.
pub mod Sets
pub mod Writes
pub mod Digits
