pub mod Readings
pub mod Ordered
pub mod Lifts
pub mod Threads
