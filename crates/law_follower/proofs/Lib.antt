pub mod Applying
pub mod Others
pub mod Masters
pub mod Texts
pub mod Following
