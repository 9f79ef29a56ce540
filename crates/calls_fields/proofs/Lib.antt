-- The laws of what sets fields in words.
pub mod Zeros
pub mod Sets
pub mod Taken
