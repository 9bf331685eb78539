pub mod Blocks
pub mod Changes
pub mod Parts
pub mod Runs
pub mod Standing
