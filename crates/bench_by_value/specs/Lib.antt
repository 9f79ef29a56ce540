-- What the measured loops compute.
pub mod Measure
