-- The laws of an access made in words.
pub mod Made
pub mod Parts
