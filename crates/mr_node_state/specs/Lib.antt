pub mod Parts
pub mod Listening
pub mod Copies
