-- The definitions of the crate `command`.
pub mod Operand
pub mod Command
pub mod Left
