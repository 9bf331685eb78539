pub mod Systems
pub mod Story
