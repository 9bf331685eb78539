pub mod SetLemmas
pub mod NamedLemmas
pub mod Removals
pub mod Passing
pub mod Backwards
pub mod Uniform
pub mod Written
pub mod SortedPairs
