pub mod Appending
pub mod Deadlines
mod NameLemmas
mod Readings
pub mod Texts
mod Folding
