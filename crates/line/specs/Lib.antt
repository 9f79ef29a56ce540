-- The definitions of the crate `line`.
pub mod Line
pub mod Example
