pub mod Dataset
pub mod Given
pub mod Meaning
pub mod Rebuilding
pub mod Due
pub mod Whole
