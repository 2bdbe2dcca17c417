pub mod Cramer
pub mod Planes
pub mod PointSums
pub mod MatrixRows
pub mod SpanLaws
pub mod TurnExpr
pub mod TurnLaws
