pub mod Lines
pub mod Snapshots
pub mod Requests
pub mod Changes
pub mod Transactions
pub mod Minired
