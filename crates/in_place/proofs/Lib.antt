-- What the proofs of the crate `in_place` share.
pub mod Calls
