-- The definitions of the crate `fields`.
pub mod Largest
pub mod Set
