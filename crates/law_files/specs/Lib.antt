pub mod Filing
pub mod Steps
pub mod Worlds
