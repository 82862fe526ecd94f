pub mod Laid
pub mod Writing
pub mod Spots
pub mod Testing
pub mod Exactly
pub mod Refusing
