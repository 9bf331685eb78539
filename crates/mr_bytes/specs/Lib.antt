pub mod Number
pub mod Texts
pub mod Window
pub mod Words
