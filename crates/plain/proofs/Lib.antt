pub mod Tested
pub mod Compared
pub mod Progressed
pub mod Answered
