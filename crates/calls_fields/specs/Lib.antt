-- The definitions of the crate `calls_fields`.
pub mod Fields
