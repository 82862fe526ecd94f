pub mod Numbers
pub mod Refusals
pub mod Kinds
pub mod Grids
pub mod Places
pub mod Listed
