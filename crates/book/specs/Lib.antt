pub mod Table
pub mod Models
pub mod Entering
pub mod Judging
pub mod Progress
