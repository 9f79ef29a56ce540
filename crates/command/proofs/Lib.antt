-- The laws of the crate `command`.
pub mod Front
pub mod Operands
pub mod Sizes
pub mod Fuel
pub mod Place
pub mod Refusals
