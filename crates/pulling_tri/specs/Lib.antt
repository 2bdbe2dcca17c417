pub mod Meets
pub mod PointSets
pub mod Pulling
