pub mod Pushing
pub mod Stores
