-- The laws of the crate `conversion`.
pub mod Measuring
pub mod Writing
pub mod Shorter
pub mod Whole
pub mod Given
pub mod Worked
