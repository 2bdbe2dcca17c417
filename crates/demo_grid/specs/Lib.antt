pub mod MeshCounts
