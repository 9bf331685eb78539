pub mod Change
pub mod Kind
pub mod LogFile
pub mod Outputs
