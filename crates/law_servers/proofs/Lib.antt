pub mod Carrying
pub mod Keeping
pub mod Calling
pub mod Standing
pub mod Unseen
pub mod Moving
