-- The definitions of the crate `machine`.
pub mod First
pub mod Machine
pub mod Outcome
