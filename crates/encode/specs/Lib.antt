-- The definitions of the crate `encode`.
pub mod Encode
