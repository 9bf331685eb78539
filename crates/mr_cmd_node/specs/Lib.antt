pub mod Options
pub mod Arguments
pub mod Carried
pub mod Spelled
pub mod Askable
pub mod ArgumentFaults
