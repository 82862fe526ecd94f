pub mod Orders
pub mod Words
