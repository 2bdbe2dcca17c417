pub mod FindingLaws
pub mod FindingTests
pub mod FreeFaceKeys
pub mod GluedBySigns
pub mod GroupMembers
pub mod SignedKeyLists
pub mod VertexRunLists
