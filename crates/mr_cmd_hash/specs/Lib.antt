pub mod Arguments
pub mod Carried
pub mod Called
pub mod Spelled
pub mod Askable
pub mod Hashes
pub mod Commands
pub mod Laws
