pub mod Runs
pub mod Streaming
