pub mod Lends
pub mod Patience
pub mod State
pub mod Table
