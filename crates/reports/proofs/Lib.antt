pub mod Files
pub mod Finding
pub mod Numbered
pub mod Cells
