pub mod Tiny
pub mod TinyLaws
pub mod Looks
pub mod Story
pub mod Troubles
pub mod Transfer
pub mod LateAccept
