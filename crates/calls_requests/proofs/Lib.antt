-- The laws of a request made in words.
pub mod Made
