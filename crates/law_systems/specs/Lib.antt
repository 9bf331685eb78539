pub mod System
pub mod Network
pub mod Steps
pub mod Servers
