-- The laws of the calls that list.
pub mod Kept
pub mod Back
