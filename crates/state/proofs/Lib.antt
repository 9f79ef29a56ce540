-- The laws of the crate `state`.
pub mod Consistent
