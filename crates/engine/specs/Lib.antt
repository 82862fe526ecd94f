pub mod Views
pub mod Rules
pub mod Finding
