-- The definitions of the crate `places`.
pub mod Places
