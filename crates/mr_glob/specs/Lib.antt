pub mod Glob
pub mod GlobPlaces
pub mod GlobSteps
pub mod GlobWords
