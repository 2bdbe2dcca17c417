pub mod AnyOffs
pub mod Faults
pub mod Meshes
pub mod ScanForms
pub mod Scans
pub mod WordForms
