pub mod PlannedCommands
pub mod Requests
pub mod Writes
pub mod Transactions
