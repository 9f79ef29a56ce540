-- The definitions of the crate `console`.
pub mod Input
