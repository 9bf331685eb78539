pub mod Places
mod Undone
pub mod Lacking
mod Behind
mod Answered
pub mod Room
mod Loading
