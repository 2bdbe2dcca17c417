pub mod Calls
pub mod Faults
pub mod Files
pub mod Fronts
pub mod InMemory
pub mod Parts
pub mod Places
pub mod Shelves
