pub mod Bytes
pub mod Fronts
pub mod Lines
pub mod Replies
pub mod Written
