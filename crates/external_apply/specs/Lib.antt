-- The definitions of the crate `external_apply`.
pub mod InParts
