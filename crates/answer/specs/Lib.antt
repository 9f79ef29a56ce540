-- The definitions of the crate `answer`.
pub mod Numbers
pub mod Refused
