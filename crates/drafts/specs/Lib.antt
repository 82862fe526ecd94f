pub mod Tallies
pub mod Making
