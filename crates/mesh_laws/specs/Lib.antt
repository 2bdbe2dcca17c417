pub mod Rounds
pub mod FaceKeys
pub mod FaceGroups
