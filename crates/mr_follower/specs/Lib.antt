pub mod Following
pub mod Handshake
pub mod Lines
pub mod Loading
pub mod State
pub mod Stream
pub mod Rows
