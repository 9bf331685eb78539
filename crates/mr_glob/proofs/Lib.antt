pub mod GlobLemmas
pub mod GlobLaws
pub mod MaskLemmas
pub mod PlaceLemmas
