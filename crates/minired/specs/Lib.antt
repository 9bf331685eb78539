pub mod Ending
pub mod Leading
