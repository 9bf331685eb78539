pub mod State
pub mod Progresses
pub mod Ending
pub mod Replicas
pub mod Parts
pub mod Introductions
