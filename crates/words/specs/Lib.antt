-- The definitions of the crate `words`.
pub mod Words
pub mod Untyped
pub mod Put
pub mod Call
