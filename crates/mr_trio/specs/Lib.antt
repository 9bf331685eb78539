pub mod Asking
pub mod Faults
pub mod Levels
pub mod Numbers
pub mod Playing
pub mod Three
