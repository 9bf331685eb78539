pub mod Asking
pub mod Telling
pub mod Playing
pub mod Scripts
pub mod Staging
