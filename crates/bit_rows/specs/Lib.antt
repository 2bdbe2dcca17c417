pub mod Rows
pub mod SampleRows
