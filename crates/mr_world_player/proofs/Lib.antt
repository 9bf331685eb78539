pub mod Moments
pub mod Going
pub mod Rounds
pub mod Told
