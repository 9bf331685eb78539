pub mod ScoredLemmas
pub mod PartLemmas
pub mod FewLemmas
pub mod RangeLemmas
pub mod OrderLemmas
pub mod RangeOrderLemmas
pub mod RangeReadLemmas
pub mod ScoreTexts
