pub mod ArgumentLemmas
pub mod FitLemmas
pub mod Laws
