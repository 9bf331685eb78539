pub mod Places
pub mod Naming
pub mod Waiting
pub mod Progressing
