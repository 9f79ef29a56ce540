-- The definitions of the crate `calls`.
pub mod Replied
pub mod Listed
pub mod Isolated
