pub mod CubeShifts
pub mod ShareTests
pub mod AcrossTests
pub mod CornerTests
pub mod ColumnTests
pub mod RingTests
pub mod WayTests
pub mod CellsRound
