-- What the measured loop computes.
pub mod Measure
