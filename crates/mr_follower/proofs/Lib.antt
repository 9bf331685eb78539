pub mod Knowing
pub mod Loadings
pub mod Fronts
pub mod Stepping
pub mod Followings
pub mod Honest
