pub mod SharesFound
pub mod AcrossFound
pub mod CornersFound
pub mod ColumnsFound
pub mod RingsFound
pub mod WaysFound
pub mod RoundsFound
