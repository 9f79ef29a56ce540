-- The table of registers.
pub mod Codes
