pub mod FilledLists
pub mod CellEdges
pub mod PlacedTuples
pub mod Shapes
pub mod Cubes
