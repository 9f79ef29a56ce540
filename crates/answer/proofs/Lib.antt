-- The laws of the crate `answer`.
pub mod Some
