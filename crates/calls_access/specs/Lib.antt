-- The definitions of the crate `calls_access`.
pub mod Access
