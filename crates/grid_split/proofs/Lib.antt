mod Tables
pub mod CubeNumbers
pub mod Before
pub mod PlaceSums
pub mod NeighbourFound
pub mod ArcSteps
