-- The claims on lists of commands, and examples of steps back.
pub mod Back
pub mod Calls
pub mod Examples
