-- The definitions of the crate `form`.
pub mod Form
pub mod Sets
