pub mod Joins
pub mod Changing
pub mod Kept
pub mod Feeding
pub mod Ticking
pub mod Dialling
pub mod Filed
mod FiledSteps
mod DialFiles
mod FilesPassing
pub mod Happened
pub mod Unchanged
mod Passing
mod Taken
pub mod Telling
pub mod Served
pub mod Servings
pub mod ServedEvents
mod Spent
pub mod Restarts
pub mod Heard
pub mod Happening
pub mod Connects
pub mod Meeting
pub mod Opening
mod Connected
mod Talking
mod Talked
