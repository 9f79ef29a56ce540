-- What is proved of sessions.
pub mod Worked
pub mod Running
pub mod Room
pub mod Whole
pub mod Lines
