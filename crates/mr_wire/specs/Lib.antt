pub mod Peer
pub mod Room
pub mod Wire
