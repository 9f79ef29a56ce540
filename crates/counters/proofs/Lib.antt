-- The laws of the loops of PMSWINC and of taking it back, and of one less.
pub mod Turns
pub mod FlagTurns
pub mod Less
