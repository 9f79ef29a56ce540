-- Laws that all crates above share.
pub mod Bools
pub mod First
