pub mod Compact
pub mod Fields
pub mod Filling
pub mod Lists
pub mod Members
pub mod Named
pub mod Walks
