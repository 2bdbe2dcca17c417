pub mod EdgeValue
pub mod EdgeEnds
pub mod NearbyHash
pub mod Sums
