pub mod Drawn
pub mod Clocks
