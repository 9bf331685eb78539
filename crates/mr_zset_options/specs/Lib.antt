pub mod Parts
pub mod AddOptions
pub mod RangeOptions
pub mod Spelled
pub mod RangeWords
pub mod Scored
