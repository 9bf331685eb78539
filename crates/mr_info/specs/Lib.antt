pub mod Info
pub mod Roles
