pub mod CubePoints
pub mod SignedCubes
