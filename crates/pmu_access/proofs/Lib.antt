-- The laws of an access that is listed, and what a call is known by.
pub mod Kept
pub mod Calls
