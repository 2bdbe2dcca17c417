pub mod MeshText
pub mod TableFile
pub mod TableFile2
pub mod HeaderLines
pub mod GridFile
pub mod GridFaults
pub mod Demo
pub mod MeshFile
