pub mod Reports
pub mod Tiles
