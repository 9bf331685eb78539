pub mod Places
pub mod Watching
