pub mod Score
pub mod Texts
