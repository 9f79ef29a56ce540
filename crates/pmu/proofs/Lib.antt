-- What is proved of the exported functions.
pub mod Zero
