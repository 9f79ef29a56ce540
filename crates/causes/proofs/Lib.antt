-- The proofs of the crate `causes`.
pub mod Rows
pub mod Stopped
pub mod Opened
pub mod Tables
pub mod Hpmn
pub mod Nspb
pub mod Cases
pub mod Responsible
pub mod Examples
