pub mod StepSums
pub mod CountedRows
pub mod WholeGrids
pub mod RowsThere
pub mod CentresThere
pub mod Walked
pub mod RowRoom
pub mod AllCounted
