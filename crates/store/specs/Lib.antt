-- The definitions of the crate `store`.
pub mod Store
