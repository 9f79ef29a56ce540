-- The laws of what requests leave.
pub mod Whole
