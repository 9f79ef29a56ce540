-- The definitions of the crate `state`.
pub mod State
