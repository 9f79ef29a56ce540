-- The laws of the machine in words.
pub mod United
pub mod Run
pub mod Stored
pub mod Puts
pub mod Typed
