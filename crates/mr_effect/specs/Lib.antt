pub mod Effects
pub mod Names
pub mod Spelling
pub mod Reading
pub mod Parts
