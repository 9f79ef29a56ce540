-- The whole output of a session, and worked sessions.
pub mod Session
pub mod Example
