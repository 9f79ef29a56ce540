-- The laws of the crate `form`.
pub mod Width
pub mod Body
