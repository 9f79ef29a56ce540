-- What is proved of the measured loops.
pub mod Total
