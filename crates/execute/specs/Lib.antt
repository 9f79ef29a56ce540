-- The definitions of the crate `execute`.
pub mod Execute
pub mod Words
