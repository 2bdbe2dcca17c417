pub mod Findings
pub mod Groups
pub mod Sides
pub mod SignedKeys
pub mod VertexRuns
pub mod OffMeshes
