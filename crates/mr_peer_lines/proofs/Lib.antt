pub mod Plain
pub mod Ends
pub mod Apart
pub mod Places
pub mod Answers
pub mod Written
