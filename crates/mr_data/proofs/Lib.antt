pub mod Answering
pub mod Changes
pub mod Datasets
pub mod Folding
pub mod Fitting
pub mod Seeing
pub mod SeenKeys
pub mod TextChanges
pub mod TextsInOrder
pub mod KindLaws
pub mod Running
pub mod Dues
pub mod LiveKeys
pub mod Grouping
pub mod Entries
pub mod Folds
pub mod RebuildingLaws
mod Leaving
