pub mod Marks
pub mod Entries
pub mod Fronts
pub mod Files
pub mod Sound
pub mod Unread
