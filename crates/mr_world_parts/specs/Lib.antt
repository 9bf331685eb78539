pub mod Codes
pub mod AtLink
pub mod AtNode
pub mod Lending
pub mod Undoing
pub mod Memory
pub mod Answering
