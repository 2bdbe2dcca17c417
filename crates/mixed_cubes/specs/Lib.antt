pub mod CubePlaces
pub mod CubeFaces
pub mod Mixed
