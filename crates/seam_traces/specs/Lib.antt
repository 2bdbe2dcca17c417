pub mod Traces
pub mod TallyLists
pub mod Kept
pub mod SeamLists
pub mod Clashes
