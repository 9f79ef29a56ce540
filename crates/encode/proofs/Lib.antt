-- The laws of the crate `encode`.
pub mod Bytes
