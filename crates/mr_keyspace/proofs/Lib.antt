pub mod Ends
pub mod Looking
pub mod Maps
pub mod Moving
pub mod Nonempty
pub mod Numbers
pub mod Renaming
pub mod Stepping
pub mod TextSteps
pub mod Cutting
pub mod Puts
mod Index
mod TimedLists
mod Coming
