-- Laws of what takes a command back.
pub mod TakenBack
pub mod Steps
