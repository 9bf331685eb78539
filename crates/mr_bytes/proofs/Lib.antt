pub mod Numbers
pub mod Windows
pub mod Places
pub mod Texts
pub mod Both
