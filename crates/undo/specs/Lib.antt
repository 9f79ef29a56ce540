-- The definitions of the crate `undo`.
pub mod Undo
