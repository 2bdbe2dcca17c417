pub mod RowVertices
pub mod PlaneVertices
pub mod CellNumbers
pub mod CubeCells
pub mod PointSigns
pub mod CubeSigns
pub mod LayerCubes
