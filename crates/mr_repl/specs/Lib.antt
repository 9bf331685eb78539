pub mod Backlog
pub mod Lineage
pub mod Pieces
pub mod ReplId
pub mod Standing
pub mod Succession
