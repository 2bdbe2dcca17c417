mod Accepted
pub mod PlacedSurfaces
