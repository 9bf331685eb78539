pub mod ArgumentLemmas
pub mod Pushing
pub mod Single
pub mod Fields
pub mod Removed
pub mod Laws
pub mod AnswerLemmas
pub mod AfterAndReply
