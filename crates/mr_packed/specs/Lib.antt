pub mod Packing
pub mod Pairs
