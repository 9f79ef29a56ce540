-- The definitions of the crate `causes`.
pub mod Responsible
pub mod Examples
pub mod Opening
