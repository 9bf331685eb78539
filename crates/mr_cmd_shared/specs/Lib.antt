pub mod Taken
pub mod Keys
pub mod Answered
pub mod Outcomes
pub mod Commands
pub mod Collections
pub mod Groups
pub mod Numbers
