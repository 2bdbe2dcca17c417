pub mod AxisSteps
pub mod SampleRows
pub mod CubeFaces
pub mod RowLaws
pub mod OffsetCases
pub mod OneSign
