-- The definitions of the crate `text`.
pub mod Text
pub mod Written
pub mod Wrote
