-- The definitions of the crate `pmsicr`.
pub mod Pmsicr
