-- The definitions of the crate `access`.
pub mod InParts
pub mod Calls
