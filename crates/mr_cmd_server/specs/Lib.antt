pub mod Arguments
pub mod Carried
pub mod Called
pub mod Spelled
pub mod ArgumentFaults
pub mod Commands
pub mod Questions
