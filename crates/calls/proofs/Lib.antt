-- The laws that the proofs of the calls share.
pub mod Refused
pub mod Listed
pub mod Isolated
