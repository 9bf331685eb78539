pub mod Kinds
pub mod Asks
pub mod Carried
pub mod Spelled
pub mod Askable
pub mod WordFaults
