pub mod BoundarySets
pub mod Tuples
pub mod SideRows
pub mod MovedPoints
pub mod FacetLists
pub mod PointLists
