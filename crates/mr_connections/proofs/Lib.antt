pub mod Changed
pub mod Each
pub mod Indexed
pub mod Listed
pub mod Places
pub mod Sent
