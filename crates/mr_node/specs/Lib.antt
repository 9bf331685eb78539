pub mod Reading
pub mod Noting
pub mod Steps
pub mod Within
pub mod Executing
pub mod Parts
pub mod Calls
pub mod Ticking
