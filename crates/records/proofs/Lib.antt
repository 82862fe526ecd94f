pub mod Bodies
pub mod Marked
pub mod Fronting
