-- The definitions of the crate `reply`.
pub mod Reply
