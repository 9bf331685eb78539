pub mod ToldLemmas
pub mod ArgumentLemmas
pub mod FitLemmas
pub mod ReadLemmas
pub mod FaultLemmas
