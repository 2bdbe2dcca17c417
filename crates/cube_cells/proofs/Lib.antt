pub mod SignBits
pub mod CellPoints
pub mod Samples
pub mod Spans
