pub mod Counts
pub mod Ids
pub mod LineKinds
pub mod Printable
pub mod Prints
pub mod Spoken
