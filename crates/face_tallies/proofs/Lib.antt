pub mod DistinctSets
pub mod SetNumbers
pub mod AddedParts
pub mod TupleFaces
pub mod TallyLaws
pub mod FaceRule
