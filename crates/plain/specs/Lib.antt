pub mod Looks
pub mod Progress
