pub mod Codes
pub mod Heard
pub mod Rows
pub mod State
