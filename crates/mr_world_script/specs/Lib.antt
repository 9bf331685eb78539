pub mod Said
pub mod Words
pub mod Reading
pub mod Lines
pub mod Answers
