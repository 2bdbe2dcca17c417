pub mod MiddleAxes
pub mod Planes
pub mod RowNumbers
