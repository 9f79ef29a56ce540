-- The examples hold.
pub mod Hold
