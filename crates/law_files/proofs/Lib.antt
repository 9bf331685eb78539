pub mod Beats
pub mod Requests
pub mod Filing
pub mod Clients
pub mod Masters
pub mod Times
pub mod Links
pub mod Worlds
