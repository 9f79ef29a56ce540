-- What is proved of the table of registers.
pub mod Tabulate
pub mod Codes
pub mod Found
