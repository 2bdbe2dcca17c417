pub mod Callers
pub mod ChainLaws
pub mod Descents
pub mod FaceSets
pub mod PointSetLaws
pub mod SetBits
pub mod PulledTuples
pub mod Narrower
