pub mod Address
pub mod Outs
pub mod Listing
pub mod Replies
