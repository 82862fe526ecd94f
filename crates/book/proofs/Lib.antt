pub mod Cuts
pub mod Inserts
pub mod Tables
pub mod Entered
pub mod Insertions
pub mod Accepting
pub mod Judged
