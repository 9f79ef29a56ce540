-- The definitions of the crate `conversion`.
pub mod Conversion
pub mod Call
pub mod Example
