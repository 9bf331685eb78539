pub mod Looking
pub mod StoryRun
pub mod TroublesRun
pub mod TransferRun
pub mod LateAcceptRun
