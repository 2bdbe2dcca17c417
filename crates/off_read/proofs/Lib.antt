pub mod LineWords
pub mod MeshLaws
pub mod OffLaws
pub mod UnreadBytes
pub mod SeeLaws
pub mod StageLaws
pub mod TakingLaws
pub mod KnownWords
